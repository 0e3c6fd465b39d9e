-- "Each word's state takes two bits of its line's 16-bit state, word 0 lowest".
use Rattle.std.specs.Prelude.{ℕ, ◌+◌, ◌-◌, ◌*◌, ◌/◌, ◌%◌, ◌^◌}
use Rattle.parts.specs.declared.WordState.{WordState}
use Rattle.parts.specs.declared.WordState.TheVariants as word

-- "0 Clean, 1 Dirty (its entry waits in the undo+redo buffer), 2 URLog (undo and newest redo logged), 3 ULog (undo
-- logged, newest redo not)"
abbrev pub Clean : ℕ
Clean = 0

abbrev pub Dirty : ℕ
Dirty = 1

abbrev pub URLog : ℕ
URLog = 2

abbrev pub ULog : ℕ
ULog = 3

-- the two bits of a state
abbrev pub bits_of : WordState → ℕ
bits_of word.Clean = Clean
bits_of word.Dirty = Dirty
bits_of word.UrLog = URLog
bits_of word.ULog = ULog

-- the state of word j of a line
unfoldable pub state_at : ℕ → ℕ → ℕ
state_at states j = states / 4 ^ j % 4

-- the same with the state of word j replaced
unfoldable pub with_state : ℕ → ℕ → ℕ → ℕ
with_state states j s = states - state_at states j * 4 ^ j + s * 4 ^ j

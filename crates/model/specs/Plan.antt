-- What a step is about to do, its one list of stores, and how much of it the supply allows.
use Rattle.std.specs.Prelude.{ℕ, suc, ◌+◌, ◌-◌, cond, List, [], ◌∷◌, ◌++◌, map, leb, length, take, replicate}
use Rattle.log_region.specs.declared.Record.{Record}
use Rattle.log_region.specs.Stores.{Store, stored}
use Rattle.log_region.specs.Region.{slots_of, record_stores, head_stores}
use Rattle.model.specs.Machine.{Machine, Memory, lost_machine}

-- what a step writes: a record at the end of the log, a home word, the head
pub data Op : Type 0 where
  append : Record → Op
  write_home : Store → Op
  set_head : ℕ → Op

-- one store, to home or log
pub data Put : Type 0 where
  in_home : Store → Put
  in_log : Store → Put

-- "The step's stores form one list": l is L, and n the number that the next record gets
unfoldable pub puts_of : ℕ → ℕ → List Op → List Put
puts_of l n [] = []
puts_of l n (append r ∷ ops) = map in_log (record_stores l n r) ++ puts_of l (n + 1) ops
puts_of l n (write_home s ∷ ops) = in_home s ∷ puts_of l n ops
puts_of l n (set_head k ∷ ops) = map in_log (head_stores l k) ++ puts_of l n ops

-- the stores of a list that go to home, and those that go to the log
unfoldable pub home_part : List Put → List Store
home_part [] = []
home_part (in_home s ∷ ps) = s ∷ home_part ps
home_part (in_log s ∷ ps) = home_part ps

unfoldable pub log_part : List Put → List Store
log_part [] = []
log_part (in_home s ∷ ps) = log_part ps
log_part (in_log s ∷ ps) = s ∷ log_part ps

-- how many records are appended
unfoldable pub appends_in : List Op → ℕ
appends_in [] = 0
appends_in (append r ∷ ops) = suc (appends_in ops)
appends_in (write_home s ∷ ops) = appends_in ops
appends_in (set_head k ∷ ops) = appends_in ops

-- A step is refused under a number, or it is planned: its answer, what it writes, the state and working words after it.
pub data Plan : Type 0 where
  refused : ℕ → Plan
  planned : ℕ → List Op → Machine → List ℕ → Plan

-- What a step hands back: the answer, the count left, the state and the buffers.
pub record Outcome : Type 0 where
  pub answer : ℕ
  pub left : ℕ
  pub machine : Machine
  pub memory : Memory

-- "0 (done)" and "255 (cut)"
abbrev pub done : ℕ
done = 0

abbrev pub cut : ℕ
cut = 255

-- the memory after these stores, with these working words
unfoldable pub written : Memory → List Put → List ℕ → Memory
written mem ps working =
    record { home = stored mem.home (home_part ps); working = working; log = stored mem.log (log_part ps) }

-- the stores made under a supply: the first c, and cut, if there are more than c; else all, and the plan's answer
unfoldable pub performed : ℕ → ℕ → Memory → List Put → Machine → List ℕ → Outcome
performed c answer mem ps next working =
    cond (leb (length ps) c)
    (record { answer = answer; left = c - length ps; machine = next; memory = written mem ps working })
    (record {
      answer = cut;
      left = 0;
      machine = lost_machine;
      memory = written mem (take c ps) (replicate (length mem.working) 0);
    })

-- the stores of a plan, n being the number of the next record
unfoldable pub planned_puts : Memory → ℕ → Plan → List Put
planned_puts mem n (refused k) = []
planned_puts mem n (planned answer ops next working) = puts_of (slots_of mem.log) n ops

-- "State, buffers and count are unchanged" where a step is refused
unfoldable pub carried_out : ℕ → Machine → Memory → ℕ → Plan → Outcome
carried_out c m mem n (refused k) = record { answer = k; left = c; machine = m; memory = mem }
carried_out c m mem n (planned answer ops next working) =
    performed c answer mem (puts_of (slots_of mem.log) n ops) next working

-- what a plan writes before another
abbrev pub preceded : List Op → Plan → Plan
preceded ops (refused k) = refused k
preceded ops (planned answer more next working) = planned answer (ops ++ more) next working

-- A plan, then another on the state and the memory that the first leaves: their operations are one list under one
-- supply, and the first of them that is refused refuses the whole.
unfoldable pub and_then : Memory → ℕ → Plan → (Machine → Memory → Plan) → Plan
and_then mem n (refused k) then = refused k
and_then mem n (planned answer ops next working) then =
    preceded ops (then next (written mem (puts_of (slots_of mem.log) n ops) working))

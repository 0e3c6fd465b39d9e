-- "each ULog word, rising, adds a redo entry of its working value for the line's holder"
use Rattle.std.specs.Prelude.{ℕ, ◌+◌, ◌*◌, Bool, ◌&&◌, List, map, leb, ltb, length, get_or}
use Rattle.parts.specs.declared.Entry.{Entry}
use Rattle.parts.specs.declared.Line.{Line}
use Rattle.lines.specs.Walks.{ulog_words}

-- line i is there, by its number and the working words
abbrev pub is_there : ℕ → List ℕ → Bool
is_there i working = ltb i 64 && leb (8 * i + 8) (length working)

-- the entry that word j of line i adds
abbrev pub ulog_entry : Line → ℕ → List ℕ → ℕ → Entry
ulog_entry line i working j =
    record { thread = line.holder; word = 8 * i + j; undo = 0; redo = get_or working (8 * i + j) 0 }

-- those that its words add
abbrev pub ulog_entries : Line → ℕ → List ℕ → List Entry
ulog_entries line i working = map (ulog_entry line i working) (ulog_words line.states)

-- The loop that appends the records of entries one after another.
use Prim.Native.Nat.{ℕ, ◌+◌, ◌-◌, ◌≤◌, ◌<◌}
use mathlib.Core.Path.{◌≡◌, ◌∙◌}
use mathlib.Core.List.{List, [], ◌∷◌, map, map-append}
use native.Mathlib.Numerals.{add-one}
use native.Mathlib.Omega.{arith}
use lib.ListN.{length, get_or, take, length-map}
use lib.Seq.{take-suc, length-take-le}
use Rattle.log_region.specs.declared.Record.{Record}
use Rattle.log_region.specs.Stores.{stored_under}
use Rattle.log_region.specs.Region.{numbers, slots_of, record_stores}
use Rattle.log_region.specs.Appended.{Appended}
use Rattle.log_region.proofs.Appended.{appended_nothing, appended_one, appended_then}
use Rattle.log_region.proofs.Appending.{records-beyond}
use Rattle.parts.specs.declared.Entry.{Entry}

-- under a number that no record has nothing is appended
pub appended-beyond : (c : ℕ) (log : List ℕ) (n : ℕ) (rs : List Record) → numbers ≤ n → Appended c log n rs log c
appended-beyond c log n rs h = appended_nothing c log n rs (records-beyond (slots_of log) n rs h)

-- one more entry, f giving the record of one
pub appended-more : (f : Entry → Record) (es : List Entry) {c n k i rest : ℕ} {before between after : List ℕ} (d : Entry) (r : Record)
    → Appended c before n (map f (take i es)) between k → i < length es → r ≡ f (get_or es i d)
    → rest ≡ k - length (record_stores (slots_of between) (n + i) r)
    → after ≡ stored_under k between (record_stores (slots_of between) (n + i) r)
    → Appended c before n (map f (take (i + 1) es)) after rest
appended-more f es {c} {n} {k} {i} {rest} {before} {between} {after} d r made h e left log =
    let rs : List Record = map f (take i es) in
    let size : length rs ≡ i = length-map (take i es) f ∙ length-take-le i es (omega arith) in
    let one : Appended k between (n + length rs) (f (get_or es i d) ∷ []) after rest = rw (size, ← e) (appended_one r left log) in
    rw (add-one, take-suc es i d h, map-append f (take i es) (get_or es i d ∷ [])) (appended_then rs (f (get_or es i d) ∷ []) made one)

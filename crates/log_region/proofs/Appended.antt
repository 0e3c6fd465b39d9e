-- Records appended to a log one after another under one supply.
use Prim.Native.Nat.{ℕ, ◌+◌, ◌-◌, min}
use mathlib.Core.Path.{◌≡◌, refl, sym, ap, ap₂, ◌∙◌}
use mathlib.Core.List.{List, [], ◌∷◌, ◌++◌}
use mathlib.Core.Bool.{Bool, true, ◌||◌}
use native.Mathlib.Nat.{add-zero}
use native.Mathlib.Decide.{dec_lt}
use native.Mathlib.Omega.{arith}
use borrow.Author.Tests.{lt-leb}
use lib.Dec.{leb}
use lib.ListN.{length, take, length-append}
use Rattle.log_region.specs.declared.Record.{Record}
use Rattle.log_region.specs.Stores.{Store, stored_under}
use Rattle.log_region.specs.Region.{numbers, slots_for, slots_of, record_stores, records_stores}
use Rattle.log_region.specs.Appended.{Appended, Progressed}
use Rattle.log_region.proofs.Stored.{length-stored, under-append, under_none}
use Rattle.log_region.proofs.Appending.{record-beyond, records-none, records-one, records-append, records-beyond}

-- a log keeps its length
pub appended-length : {c n rest : ℕ} {before after : List ℕ} {rs : List Record} → Appended c before n rs after rest → length after ≡ length before
appended-length {c} {n} {rest} {before} {after} {rs} a =
    ap length a.log ∙ length-stored before (take c (records_stores (slots_of before) n rs))

-- records that take no stores
pub appended_nothing : (c : ℕ) (log : List ℕ) (n : ℕ) (rs : List Record) → records_stores (slots_of log) n rs ≡ [] → Appended c log n rs log c
appended_nothing c log n rs e = let none = under_none c log (records_stores (slots_of log) n rs) e in record { left = none.0; log = none.1 }

-- no record
pub appended-none : (c : ℕ) (log : List ℕ) (n : ℕ) → Appended c log n [] log c
appended-none c log n = appended_nothing c log n [] (records-none (slots_of log) n)

-- where a test passes only if there is no record, or the numbers are no record's, nothing is appended
pub appended-not : (c : ℕ) (log : List ℕ) (n : ℕ) (rs : List Record) (t : Bool) → (leb numbers n || t) ≡ true → (t ≡ true → rs ≡ [])
    → Appended c log n rs log c
appended-not c log n rs t e none =
    elim (dec_lt n numbers) [
      | yes p ↦ rw (none (rw (lt-leb numbers n p) at e)) (appended-none c log n)
      | no q ↦ appended_nothing c log n rs (records-beyond (slots_of log) n rs (omega arith))
    ]

-- one record
pub appended_one : {c n rest : ℕ} {before after : List ℕ} (r : Record) → rest ≡ c - length (record_stores (slots_of before) n r)
    → after ≡ stored_under c before (record_stores (slots_of before) n r) → Appended c before n (r ∷ []) after rest
appended_one {c} {n} {rest} {before} {after} r left log =
    let e = records-one (slots_of before) n r in
    record { left = rw e left; log = rw e log }

-- records, and then others under what is left of the supply
pub appended_then : {c n k rest : ℕ} {before between after : List ℕ} (rs ss : List Record) → Appended c before n rs between k
    → Appended k between (n + length rs) ss after rest → Appended c before n (rs ++ ss) after rest
appended_then {c} {n} {k} {rest} {before} {between} {after} rs ss first second =
    let l : ℕ = slots_of before in
    let xs : List Store = records_stores l n rs in
    let ys : List Store = records_stores l (n + length rs) ss in
    let e : records_stores l n (rs ++ ss) ≡ xs ++ ys = records-append l n rs ss in
    let same : slots_of between ≡ l = ap slots_for (appended-length first) in
    let left : rest ≡ k - length ys = rw same at second.left in
    let log : after ≡ stored_under k between ys = rw same at second.log in
    let more : length (xs ++ ys) ≡ length xs + length ys = length-append xs ys in
    let k-left : k ≡ c - length xs = first.left in
    record {
      left = rw e (omega arith);
      log = rw e (log ∙ ap₂ (λ (j : ℕ) (x : List ℕ). stored_under j x ys) k-left first.log ∙ sym (under-append c before xs ys));
    }

-- and one record more under a number that is that of its turn, or like it past the last record's
pub appended_more : {c n k rest : ℕ} {before between after : List ℕ} (m : ℕ) (rs : List Record) (r : Record) → Appended c before n rs between k
    → min numbers m ≡ min numbers (n + length rs) → rest ≡ k - length (record_stores (slots_of between) m r)
    → after ≡ stored_under k between (record_stores (slots_of between) m r) → Appended c before n (rs ++ (r ∷ [])) after rest
appended_more {c} {n} {k} {rest} {before} {between} {after} m rs r done turn left log =
    let l : ℕ = slots_of between in
    let same : record_stores l m r ≡ record_stores l (n + length rs) r =
    elim (dec_lt m numbers) [
      | yes p ↦ let e : m ≡ n + length rs = omega arith in rw e
      | no q ↦ rw (record-beyond l m r (omega arith), record-beyond l (n + length rs) r (omega arith))
    ] in
    appended_then rs (r ∷ []) done (appended_one r (rw same at left) (rw same at log))

-- The same with the number of the next record.

-- a log keeps its length
pub progressed-length : {c n m k : ℕ} {before after : List ℕ} {rs : List Record} → Progressed c before n rs after m k → length after ≡ length before
progressed-length p = appended-length p.appended

-- no record
pub progressed-none : (c : ℕ) (log : List ℕ) (n : ℕ) → Progressed c log n [] log n c
progressed-none c log n = record { number = sym (add-zero n); appended = appended-none c log n }

-- one record
pub progressed-one : {c n k : ℕ} {before after : List ℕ} (r : Record) → k ≡ c - length (record_stores (slots_of before) n r)
    → after ≡ stored_under c before (record_stores (slots_of before) n r) → Progressed c before n (r ∷ []) after (n + 1) k
progressed-one r left log = record { number = refl; appended = appended_one r left log }

-- records, and then others
pub progressed-then : {c n k m next rest : ℕ} {before between after : List ℕ} (rs ss : List Record) → Progressed c before n rs between m k
    → Progressed k between m ss after next rest → Progressed c before n (rs ++ ss) after next rest
progressed-then {c} {n} {k} {m} {next} {rest} {before} {between} {after} rs ss first second =
    let long : length (rs ++ ss) ≡ length rs + length ss = length-append rs ss in
    let e = first.number in
    let f = second.number in
    record { number = omega arith; appended = appended_then rs ss first.appended (rw e at second.appended) }

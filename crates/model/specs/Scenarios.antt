-- Document 01, "Benches to try": P1 to P11 as a table, each with all that the paper says of it; then "Plausible, and
-- wrong", edges of the supply, a delete and another thread's commit, and why a log is full (document 02).
use Rattle.std.specs.Prelude.{ℕ, ◌+◌, ◌-◌, ◌*◌, ◌^◌, ◌≡◌, Bool, true, false, ◌&&◌, List, [], ◌∷◌, ◌++◌, map, eqb, get_or, replicate}
use Rattle.log_region.specs.Stores.{Store}
use Rattle.model.specs.Lists.{all, up_to}
use Rattle.model.specs.Machine.{lost_machine}
use Rattle.model.specs.Step.{Step, begin, store, log_undo, evict, write_back, commit, delete_oldest, recover}
use Rattle.model.specs.Book.{opened_book}
use Rattle.model.specs.Run.{World, Timed, outcome, after}

-- a step under a supply, the answer that is expected, and the number of stores made
pub record Expected : Type 0 where
  pub timed : Timed
  pub answer : ℕ
  pub stores : ℕ

-- the log's head at first, the steps, and what is expected at the end: words of the log by their place, word 0 of home
-- and of working; their other seven words are 0
pub record Scenario : Type 0 where
  pub head : ℕ
  pub steps : List Expected
  pub log : List Store
  pub home : ℕ
  pub working : ℕ

-- "ample supply (2^64 − 1)"
abbrev pub ample : ℕ
ample = 2 ^ 64 - 1

abbrev pub under : ℕ → Step → ℕ → ℕ → Expected
under c s answer stores = record { timed = record { step = s; supply = c }; answer = answer; stores = stores }

abbrev pub does : Step → ℕ → ℕ → Expected
does = under ample

-- "W = 8, L = 8, home 0, fresh log", but for the head
abbrev pub start_of : Scenario → World
start_of s =
    record {
      machine = lost_machine;
      memory = record { home = replicate 8 0; working = replicate 8 0; log = s.head ∷ replicate 24 0 };
      book = opened_book (replicate 8 0);
    }

unfoldable pub all_expected : World → List Expected → Bool
all_expected w [] = true
all_expected w (x ∷ xs) =
    (eqb (outcome w x.timed).answer x.answer &&
    eqb (x.timed.supply - (outcome w x.timed).left) x.stores) &&
    all_expected (after w x.timed) xs

unfoldable pub end : World → List Expected → World
end w [] = w
end w (x ∷ xs) = end (after w x.timed) xs

-- the same words, as many
unfoldable pub same_words : List ℕ → List ℕ → Bool
same_words [] [] = true
same_words [] (y ∷ ys) = false
same_words (x ∷ xs) [] = false
same_words (x ∷ xs) (y ∷ ys) = eqb x y && same_words xs ys

unfoldable pub passes : Scenario → Bool
passes s =
    let last = (end (start_of s) s.steps).memory in
    all_expected (start_of s) s.steps &&
    (all (λ x. eqb (get_or last.log x.at 0) x.value) s.log &&
    (same_words last.home (s.home ∷ replicate 7 0) && same_words last.working (s.working ∷ replicate 7 0)))

-- word 0 of the log is the head; slot s is words 1+3s, 2+3s and 3+3s
abbrev pub head_is : ℕ → Store
head_is n = record { at = 0; value = n }

abbrev pub slot_is : ℕ → ℕ → ℕ → ℕ → List Store
slot_is s u r h =
    record { at = 1 + 3 * s; value = u } ∷ record { at = 2 + 3 * s; value = r } ∷ record { at = 3 + 3 * s; value = h }
    ∷ []

-- "recovered"
abbrev pub recovered : Expected
recovered = does recover 0 1

-- one transaction of thread 0 that stores v into word 0
abbrev pub transaction : ℕ → List Expected
transaction v = does (begin 0) 0 0 ∷ does (store 0 0 v) 0 0 ∷ does (commit 0) 0 6 ∷ []

abbrev pub fresh : List Expected → List Store → ℕ → ℕ → Scenario
fresh steps log home working = record { head = 0; steps = recovered ∷ steps; log = log; home = home; working = working }

-- "P1: recover makes 1 store; with count 0 it is cut."
abbrev pub p1 : List Scenario
p1 =
    fresh [] (head_is 0 ∷ []) 0 0
    ∷ record { head = 0; steps = under 0 recover 255 0 ∷ []; log = head_is 0 ∷ []; home = 0; working = 0 }
    ∷ []

-- "P2: begin, store 7, commit: 6 stores; slot 0 is 0, 7, 0500000000000000 and slot 1 ends in 0700000000000000
-- (hexadecimal). Recover: 2 stores, home 7, head 2."
abbrev pub p2 : List Scenario
p2 =
    fresh (transaction 7) (slot_is 0 0 7 0x0500000000000000 ++ slot_is 1 0 0 0x0700000000000000) 0 7
    ∷ fresh (transaction 7 ++ (does recover 0 2 ∷ [])) (head_is 2 ∷ []) 7 7
    ∷ []

-- P2's commit under a supply of c, with its answer and its stores
abbrev pub commit_under : ℕ → ℕ → ℕ → List Expected
commit_under c answer stores = does (begin 0) 0 0 ∷ does (store 0 0 7) 0 0 ∷ under c (commit 0) answer stores ∷ []

-- "P3: as P2 with count 5 at commit: cut; recover leaves 0, head 1."
abbrev pub p3 : List Scenario
p3 = fresh (commit_under 5 255 5 ++ (does recover 0 2 ∷ [])) (head_is 1 ∷ []) 0 0 ∷ []

-- store 7, log undo, store 9
abbrev pub two_stores : List Expected
two_stores = does (begin 0) 0 0 ∷ does (store 0 0 7) 0 0 ∷ does log_undo 0 3 ∷ does (store 0 0 9) 0 0 ∷ []

-- "P4: store 7, log undo, store 9, write home, commit (6 stores): recover makes 3 and leaves 9."
abbrev pub p4 : List Scenario
p4 = fresh (two_stores ++ (does (write_back 0) 0 8 ∷ does (commit 0) 0 6 ∷ does recover 0 3 ∷ [])) (head_is 3 ∷ []) 9 9
    ∷ []

-- "P5: P4 without commit: 2 stores, 0."
abbrev pub p5 : List Scenario
p5 = fresh (two_stores ++ (does (write_back 0) 0 8 ∷ does recover 0 2 ∷ [])) (head_is 1 ∷ []) 0 0 ∷ []

-- "P6: store 7, log undo, store 9, set down, store 11, commit: 3 records in the log, recover leaves 11.
-- With log undo in place of commit: 0."
abbrev pub p6 : List Scenario
p6 =
    let steps = two_stores ++ (does (evict 0) 0 0 ∷ does (store 0 0 11) 0 0 ∷ []) in
    fresh (steps ++ (does (commit 0) 0 6 ∷ does recover 0 3 ∷ [])) (head_is 3 ∷ []) 11 11
    ∷ fresh (steps ++ (does log_undo 0 3 ∷ does recover 0 3 ∷ [])) (head_is 2 ∷ []) 0 0
    ∷ []

-- "P7: store 0; thread 1 begins and stores word 3: 8."
abbrev pub p7 : List Scenario
p7 = fresh (does (begin 0) 0 0 ∷ does (store 0 0 0) 0 0 ∷ does (begin 1) 0 0 ∷ does (store 1 3 1) 8 0 ∷ []) [] 0 0 ∷ []

-- "P8: store 7, write home: 9."
abbrev pub p8 : List Scenario
p8 = fresh (does (begin 0) 0 0 ∷ does (store 0 0 7) 0 0 ∷ does (write_back 0) 9 0 ∷ []) [] 0 7 ∷ []

-- "P9: after P2's commit, delete: 15. After write home: done, done, then 12."
abbrev pub p9 : List Scenario
p9 =
    fresh
    (transaction 7 ++
    (does delete_oldest 15 0
    ∷ does (write_back 0) 0 8
    ∷ does delete_oldest 0 1
    ∷ does delete_oldest 0 1
    ∷ does delete_oldest 12 0
    ∷ []))
    (head_is 2 ∷ [])
    7
    7
    ∷ []

abbrev pub four_transactions : List Expected
four_transactions = transaction 1 ++ (transaction 2 ++ (transaction 3 ++ transaction 4))

-- "P10: storing 1, 2, 3, 4 in four transactions fills the log; a fifth storing 5: commit" 17, by document 02, [1].
-- "Write home and two deletes before the fifth: its headers are 0100000000000000 and 0300000000000000."
abbrev pub p10 : List Scenario
p10 =
    fresh (four_transactions ++ (does (begin 0) 0 0 ∷ does (store 0 0 5) 0 0 ∷ does (commit 0) 17 0 ∷ [])) (head_is 0
    ∷ []) 0 5
    ∷ fresh
    (four_transactions ++
    (does (write_back 0) 0 8 ∷ does delete_oldest 0 1 ∷ does delete_oldest 0 1 ∷ transaction 5))
    (head_is 2 ∷ (slot_is 0 4 5 0x0100000000000000 ++ slot_is 1 0 0 0x0300000000000000))
    4
    5
    ∷ []

-- a scenario with another head at first, of which the log still has it at the end
abbrev pub head_at : ℕ → List Expected → Scenario
head_at n steps = record { head = n; steps = steps; log = head_is n ∷ []; home = 0; working = 0 }

-- "P11: recover with head 2^48 is done; then begin and commit: 11. Head 2^48 + 1: 13."
abbrev pub p11 : List Scenario
p11 =
    head_at (2 ^ 48) (recovered ∷ does (begin 0) 0 0 ∷ does (commit 0) 11 0 ∷ [])
    ∷ head_at (2 ^ 48 + 1) (does recover 13 0 ∷ [])
    ∷ []

-- "Plausible, and wrong", but for two entries, which P7 and P6 show: a redo entry discarded by a write home, an
-- undo+redo entry whose halves became equal, and equal home and working words of a line whose record is needed
abbrev pub plausible : List Scenario
plausible =
    fresh (two_stores ++ (does (evict 0) 0 0 ∷ does (write_back 0) 0 8 ∷ does (commit 0) 0 6 ∷ does recover 0 3
    ∷ [])) [] 9 9
    ∷ fresh
    (two_stores ++ (does (evict 0) 0 0 ∷ does (store 0 0 11) 0 0 ∷ does (store 0 0 9) 0 0 ∷ does (commit 0) 0 6
    ∷ does recover 0 3 ∷ []))
    []
    9
    9
    ∷ fresh (transaction 7 ++ (does (begin 0) 0 0 ∷ does (store 0 0 0) 0 0 ∷ does delete_oldest 15 0 ∷ does recover 0 2
    ∷ [])) [] 7 7
    ∷ []

-- a supply that is just enough, and one store less: the working words are wiped; an open transaction's record stays;
-- another thread's commit closes nothing of it
abbrev pub edges : List Scenario
edges =
    fresh (commit_under 6 0 6) [] 0 7
    ∷ fresh (commit_under 5 255 5) [] 0 0
    ∷ fresh
    (does (begin 0) 0 0 ∷ does (store 0 0 7) 0 0 ∷ does log_undo 0 3 ∷ does (write_back 0) 0 8 ∷ does delete_oldest 15 0
    ∷ does recover 0 2 ∷ [])
    []
    0
    0
    ∷ fresh (two_stores ++ (does (begin 1) 0 0 ∷ does (commit 1) 0 3 ∷ does recover 0 2 ∷ [])) (head_is 2 ∷ []) 0 0
    ∷ []

-- a transaction of thread 0 in which all eight words are Dirty, their working values 0 again
abbrev pub all_dirty : List Expected
all_dirty =
    does (begin 0) 0 0
    ∷ (map (λ w. does (store 0 w 9) 0 0) (up_to 8) ++ map (λ w. does (store 0 w 0) 0 0) (up_to 8))

-- head 2^48 − 9, and a log of zeros that is recovered, so that a ninth record from now on is the last
abbrev pub near_the_end : List Expected → Scenario
near_the_end steps =
    record { head = 2 ^ 48 - 9; steps = recovered ∷ steps; log = head_is (2 ^ 48 - 9) ∷ []; home = 0; working = 0 }

-- Document 02, [1], beside P10. A commit of nine records: the log is empty, then its oldest record is open; the oldest
-- may be deleted; full and worn, it may be deleted, is open, is needed
abbrev pub full_log : List Scenario
full_log =
    fresh (all_dirty ++ (does (commit 0) 10 0 ∷ does log_undo 0 3 ∷ does (commit 0) 16 0 ∷ [])) (head_is 0 ∷ []) 0 0
    ∷ fresh
    (four_transactions ++
    (does (write_back 0) 0 8 ∷ does (begin 0) 0 0 ∷ does (commit 0) 10 0 ∷ does delete_oldest 0 1 ∷ does (commit 0) 0 3
    ∷ []))
    (head_is 1 ∷ [])
    4
    4
    ∷ near_the_end (does (begin 0) 0 0 ∷ does (commit 0) 0 3 ∷ (all_dirty ++ (does (commit 0) 10 0 ∷ [])))
    ∷ near_the_end (all_dirty ++ (does log_undo 0 3 ∷ does (store 0 0 9) 0 0 ∷ does (store 0 0 0) 0 0 ∷ does (commit 0) 16 0
    ∷ []))
    ∷ near_the_end (transaction 1 ++ (all_dirty ++ (does (commit 0) 17 0 ∷ [])))
    ∷ []

abbrev pub scenarios : List Scenario
scenarios =
    p1 ++
    (p2 ++ (p3 ++ (p4 ++ (p5 ++ (p6 ++ (p7 ++ (p8 ++ (p9 ++ (p10 ++ (p11 ++ (plausible ++ (edges ++ full_log))))))))))))

abbrev pub ScenariosClaim : Type 0
ScenariosClaim = all passes scenarios ≡ true

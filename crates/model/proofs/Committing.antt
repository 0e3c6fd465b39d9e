-- A commit: the redo records of its thread's newest values, all that it logs before its own record, and that record,
-- which closes the transaction.
use Prim.Native.Nat.{ℕ, ◌+◌, ◌-◌, ◌/◌, ◌<◌, ◌*◌}
use mathlib.Core.Path.{◌≡◌, refl, sym, ap, ◌∙◌, subst}
use mathlib.Core.Bool.{Bool, true, false, cond, false≢true, ◌&&◌, and-eq-true_iff}
use mathlib.Core.List.{List, [], ◌∷◌, ◌++◌, map, append-nil, append_assoc}
use mathlib.Core.Logic.{inl}
use mathlib.Core.Option.{none, Option, some}
use native.Mathlib.Decide.{dec_lt, ℕ_discrete}
use native.Mathlib.Omega.{arith}
use native.Mathlib.Nat.{zero-add}
use borrow.Author.Tests.{eq-eqb, ne_eqb, eqb-true, lt-ltb, le-leb}
use lib.Dec.{eqb}
use lib.ListN.{length, get_or, take, set, length-set, length-map, length-append}
use lib.Seq.{take-append-le, take-append-add, get_or-set_same, get_or-set_other}
use Rattle.log_region.specs.declared.Record.{Record}
use Rattle.log_region.specs.declared.Record.TheVariants.{Commit, Redo}
use Rattle.log_region.specs.Holding.{Valid, Every}
use Rattle.log_region.specs.Stores.{Store}
use Rattle.log_region.proofs.Holding.{every_append}
use Rattle.parts.specs.declared.Entry.{Entry}
use Rattle.parts.specs.declared.Line.{Line}
use Rattle.parts.specs.FreeLine.{nobody}
use Rattle.parts.specs.States.{URLog, ULog}
use Rattle.parts.proofs.States.{state-clean}
use Rattle.model.specs.Lists.{keep, up_to, is_empty}
use Rattle.model.specs.Machine.{Machine, Memory, with_lines, with_undo_redo, with_redo, is_open, state_in, holder_in, dirty_in, all_logged, words_marked}
use Rattle.model.specs.Consistent.{entries_of}
use Rattle.model.specs.Steps.{undo_redo_record, redo_record, newest_words, newest_redos, prepare_records, prepare_next}
use Rattle.model.specs.Steps.{released, close_next, commit_records, commit_next}
use Rattle.model.specs.Step.{commit}
use Rattle.model.specs.Book.{Book, settled, entered}
use Rattle.model.proofs.Lists.{every-implied, every-mapped, every-kept, every-listed, take-map}
use Rattle.model.proofs.LastTo.{last_to, settled-word, last-append, first-none, last_made}
use Rattle.model.proofs.Records.{Own, own-end, own-closed, redos, undo-of-redos, redo-of-redos, redos-append, own-redos}
use Rattle.model.proofs.Lines.{line-released, holder-words, holder-logged, state-logged, state-words, dirty-words, length-words}
use Rattle.model.proofs.Core.{At, CoreOf, LineOk, Safe, Appends, core-safe, shape-owners, Says, says, Word, AtLine, EntryOk, Core, shape-lines}
use Rattle.model.proofs.Logging.{says-own, says_other, newest-known, committed-word, grown, grown-none}
use Rattle.model.proofs.Logging.{ulog-word, ulog-logged, undos-logged, redos-logged, undos-safe, redos-safe, all-marked}
use Rattle.model.proofs.Entries.{kept-once, once-or-none}

-- the redos of redo records made of words
redos-made : (t : ℕ) (f : ℕ → ℕ) (ws : List ℕ)
    → redos (map (λ v. Redo t v (f v)) ws) ≡ map (λ v. record { at = v; value = f v }) ws
unfolding redos
redos-made t f [] = refl
redos-made t f (v ∷ ws) = ap (λ (ss : List Store). record { at = v; value = f v } ∷ ss) (redos-made t f ws)

-- a number below n is once among those that pass a test, if it passes
kept-empty : (f : ℕ → Bool) (n w : ℕ) → w < n → keep (λ v. eqb v w) (keep f (up_to n)) ≡ cond (f w) (w ∷ []) []
kept-empty f n w below = simp zero-add at (kept-once f 0 n w) ∙ (rw (le-leb 0 w (omega arith), lt-ltb w n below))

-- the newest redo of a word among those of the numbers below n that pass a test
last-kept : (w t : ℕ) (f : ℕ → Bool) (g : ℕ → ℕ) (n : ℕ) → w < n
    → last_to w (redos (map (λ v. Redo t v (g v)) (keep f (up_to n)))) ≡ cond (f w) (some (g w)) none
last-kept w t f g n below =
    ap (last_to w) (redos-made t g (keep f (up_to n))) ∙ last_made w g (keep f (up_to n))
    ∙ (rw (kept-empty f n w below) (once-or-none (f w) w none (some (g w))))

-- t holds the word, and it is ULog
abbrev pub is_newest : ℕ → List Line → ℕ → Bool
is_newest t ls w = eqb (holder_in ls w) t && eqb (state_in ls w) ULog

-- logging the undo+redo buffer leaves the ULog words as they are
pub newest-after : {words : ℕ} {opened : List Bool} {ls : List Line} {us ds : List Entry} {rs : List Record} {home working : List ℕ} {s : ℕ → ℕ}
    {p : ℕ → List Store} (t : ℕ) → Core words opened ls us ds rs home working s p → (w : ℕ) → w < words
    → is_newest t ls w ≡ is_newest t (all_logged us ls) w
newest-after {words} {ls = ls} {us} t core w h =
    let lines : words ≡ 8 * length ls = core.shape.line_count in
    let within : Every (λ e. e.word / 8 < length ls) us =
    every-implied (EntryOk words) (λ e. e.word / 8 < length ls) us (λ e ok. omega arith) core.shape.undos.ok in
    simp (holder-logged, state-logged us ls w within) (ap (λ b. eqb (holder_in ls w) t && b) (ulog-logged (core.at w h).word.state))

-- redo records of the working values of the words that pass a test
abbrev pub newest_of : ℕ → (ℕ → Bool) → ℕ → List ℕ → List Record
newest_of t f words working = map (λ w. Redo t w (get_or working w 0)) (keep f (up_to words))

module _ {words : ℕ} {opened : List Bool} {ls : List Line} {us ds : List Entry} {rs : List Record} {home working : List ℕ} {s : ℕ → ℕ}
    {p : ℕ → List Store} (t : ℕ) (f : ℕ → Bool) (core : Core words opened ls us ds rs home working s p) where
  -- a power cut is safe after any number of them
  pub newest-safe : (k : ℕ) → Safe words (rs ++ take k (newest_of t f words working)) home s
  unfolding Safe
  newest-safe k w h = simp (take-map, undo-of-redos, redo-of-redos) (core-safe core w h)

  module _ (small : t < 8) (picks : (w : ℕ) → w < words → f w ≡ is_newest t ls w) where
    -- what the log says of a word then
    says-newest : (w : ℕ) (dirty : Bool) → w < words
        → says w dirty (rs ++ newest_of t f words working) ≡ grown dirty none (cond (f w) (some (get_or working w 0)) none) (says w dirty rs)
    says-newest w true h = simp (undo-of-redos, redo-of-redos, redos-append, last-append, last-kept, first-none)
    says-newest w false h = simp (undo-of-redos, redo-of-redos, redos-append, last-append, last-kept, first-none)

    held : (w : ℕ) → w < words → f w ≡ true → (holder_in ls w ≡ t) × (state_in ls w ≡ ULog)
    held w h q =
        let both : (eqb (holder_in ls w) t ≡ true) × (eqb (state_in ls w) ULog ≡ true) =
        (and-eq-true_iff (eqb (holder_in ls w) t) (eqb (state_in ls w) ULog)).0 (sym (picks w h) ∙ q) in
        (eqb-true (holder_in ls w) t both.0, eqb-true (state_in ls w) ULog both.1)

    -- a property of the words that are logged
    each : (P : ℕ → Type 0) → ((w : ℕ) → w < words → f w ≡ true → P w) → Every P (keep f (up_to words))
    each P holds = every-kept P f (up_to words) (every-listed (λ w. f w ≡ true → P w) words (λ w. w) holds)

    -- the words after all of them
    abbrev logged : List Line
    logged = words_marked URLog (keep f (up_to words)) ls

    pub state-newest : (w : ℕ) → w < words → state_in logged w ≡ cond (f w) URLog (state_in ls w)
    state-newest w h =
        state-words URLog (keep f (up_to words)) ls w (omega arith) (each (λ v. v / 8 < length ls) (λ v l q. omega (arith, core.shape.line_count)))
        ∙ ap (λ (vs : List ℕ). cond (is_empty vs) (state_in ls w) URLog) (kept-empty f words w h)
        ∙ once-or-none (f w) w (state_in ls w) URLog

    word-newest : (w : ℕ) (b : Bool) {g : Says} {mine : Option ℕ} {sw hm x hw : ℕ} {d : Bool} {st : ℕ} {xs ys : List Entry} → (b ≡ true → st ≡ ULog)
        → Word g mine sw hm x hw d st xs ys → Word (grown d none (cond b (some x) none) g) mine sw hm x hw d (cond b URLog st) xs ys
    word-newest w true e word = ulog-word (e refl) word
    word-newest w false {g} {d = d} e word = rw (grown-none d g) word

    -- the invariant holds after all of them
    pub newest-logged : Core words opened logged us ds (rs ++ newest_of t f words working) home working s p
    newest-logged =
        record {
          shape = shape-lines core.shape (length-words URLog (keep f (up_to words)) ls)
              (all-marked opened URLog (keep f (up_to words)) ls (omega arith) (each (λ v. holder_in ls v < 8) (λ v l q. rw (held v l q).0 small))
              core.shape.lines_ok);
          valid =
              every_append (Valid words) rs (newest_of t f words working) core.valid
              (every-mapped (Valid words) (λ w. Redo t w (get_or working w 0)) (keep f (up_to words))
              (each (λ w. Valid words (Redo t w (get_or working w 0))) (λ w h q. record { thread = small; word = h })));
          at = λ w h.
              let before = core.at w h in
              rw (holder-words URLog (keep f (up_to words)) ls w, dirty-words URLog (keep f (up_to words)) ls w, state-newest w h)
              (record {
                own =
                    own-redos w (holder_in ls w) rs t (λ v. get_or working v 0) (keep f (up_to words)) before.own
                    (each (λ v. v ≡ w → t ≡ holder_in ls w) (λ v l q e. sym (held v l q).0 ∙ ap (holder_in ls) e));
                others = before.others;
                word = rw (says-newest w (dirty_in ls w) h) (word-newest w (f w) (λ q. (held w h q).1) before.word);
              });
        }

    -- no word that t holds is ULog then
    pub none-ulog : (w : ℕ) → w < words → holder_in ls w ≡ t → state_in logged w ≡ ULog → ⊥
    none-ulog w h mine e =
        elim (ℕ_discrete (state_in ls w) ULog) [
          | yes u ↦
              let all : f w ≡ true = picks w h ∙ (rw (eq-eqb (holder_in ls w) t mine, eq-eqb (state_in ls w) ULog u)) in
              let now : URLog ≡ ULog = (rw all at (sym (state-newest w h))) ∙ e in
              omega arith
          | no ne ↦
              let none : f w ≡ false = picks w h ∙ (rw (eq-eqb (holder_in ls w) t mine, ne_eqb (state_in ls w) ULog ne)) in
              ne ((rw none at (sym (state-newest w h))) ∙ e)
        ]

-- records appended, then others: what a power cut leaves in between is safe, and the invariant holds at the end
pub appends-then : {m mid next : Machine} {home : List ℕ} {b book : Book} {rs xs ys : List Record} {working last : List ℕ}
    → Appends m home b rs xs mid working b → Appends mid home b (rs ++ xs) ys next last book → mid.sizes ≡ m.sizes
    → Appends m home b rs (xs ++ ys) next last book
appends-then {m} {mid} {home = home} {b} {rs = rs} {xs} {ys} early late same =
    record {
      safe = λ k h.
          let size : length (xs ++ ys) ≡ length xs + length ys = length-append xs ys in
          elim (dec_lt k (length xs)) [
            | yes p ↦ rw (take-append-le k xs ys (omega arith)) (early.safe k p)
            | no q ↦
                let sum : k ≡ length xs + (k - length xs) = omega arith in
                let parts : take k (xs ++ ys) ≡ xs ++ take (k - length xs) ys =
                ap (λ j. take j (xs ++ ys)) sum ∙ take-append-add xs ys (k - length xs) in
                subst (λ z. Safe z.words (rs ++ take k (xs ++ ys)) home b.committed) same
                (rw (parts, ← append_assoc) (late.safe (k - length xs) (omega arith)))
          ];
      core = rw (← append_assoc) late.core;
    }

-- a line that is in order stays so when t commits
line-committed : (opened : List Bool) (t : ℕ) (line : Line) → LineOk opened line → LineOk (set opened t false) (released t line)
unfolding released
line-committed opened t line ok =
    elim (ℕ_discrete line.holder t) [
      | yes e ↦ rw (eq-eqb line.holder t e) (record { states = omega arith; holder = inl (refl, refl) })
      | no ne ↦
          rw (ne_eqb line.holder t ne)
          (record { states = ok.states; holder = rw (get_or-set_other opened t line.holder false false ne) ok.holder })
    ]

-- nothing of t's is left to log: of each word that it holds no entry waits, and it is not ULog
unfoldable pub AllPrepared : ℕ → Machine → Type 0
AllPrepared t m =
    (w : ℕ) → w < m.sizes.words → holder_in m.lines w ≡ t
    → (entries_of w m.buffers.undo_redo ≡ []) × ((entries_of w m.buffers.redo ≡ []) × (state_in m.lines w ≡ ULog → ⊥))

module _ (m : Machine) (mem : Memory) (b : Book) (rs : List Record) (t : ℕ)
    (core : CoreOf m mem.home mem.working b rs) (small : t < 8) where
  abbrev us : List Entry
  us = m.buffers.undo_redo

  abbrev ds : List Entry
  ds = m.buffers.redo

  -- the machine once the undo+redo buffer is logged
  abbrev undone : Machine
  undone = with_undo_redo [] (with_lines (all_logged us m.lines) m)

  with-undos : Appends m mem.home b rs (map undo_redo_record us) undone mem.working b
  with-undos =
      let before = rw (← (append-nil us)) at core in
      record {
        safe = λ k h. undos-safe k us [] ds m.lines rs before;
        core = undos-logged us [] ds m.lines rs before;
      }

  -- and once the redo buffer is too
  with-redos : Appends undone mem.home b (rs ++ map undo_redo_record us) (map redo_record ds) (with_redo [] undone)
      mem.working b
  with-redos =
      let between = rw (← (append-nil ds)) at with-undos.core in
      record {
        safe = λ k h. redos-safe k ds [] [] (all_logged us m.lines) (rs ++ map undo_redo_record us) between;
        core = redos-logged ds [] [] (all_logged us m.lines) (rs ++ map undo_redo_record us) between;
      }

  -- what is logged before the commit record: the undo+redo buffer, the redo buffer, and t's newest values
  pub prepare-step : Appends m mem.home b rs (prepare_records m mem t) (prepare_next m mem t) mem.working b
  unfolding prepare_records prepare_next newest_redos newest_words
  prepare-step =
      let test : ℕ → Bool = is_newest t m.lines in
      appends-then with-undos
      (appends-then with-redos
      (record {
        safe = λ k h. newest-safe t test with-redos.core k;
        core = newest-logged t test with-redos.core small (newest-after t core);
      })
      refl)
      refl

  -- nothing of t's is left to log then
  pub all-prepared : AllPrepared t (prepare_next m mem t)
  unfolding AllPrepared prepare_next newest_words keep
  all-prepared w h mine =
      let left = none-ulog t (is_newest t m.lines) with-redos.core small (newest-after t core) w h in
      (refl, (refl, left (sym (holder-words URLog _ _ w) ∙ mine)))

-- The commit record, of any machine in which nothing of t's is left to log; other threads' entries stay.
module _ (m : Machine) (home working : List ℕ) (b : Book) (rs : List Record) (t : ℕ) (core : CoreOf m home working b rs) (small : t < 8)
    (began : is_open m t ≡ true) (prepared : AllPrepared t m) where
  abbrev ls : List Line
  ls = m.lines

  -- another thread that is open still has stored nothing for a word that it does not hold
  still-none : (w : ℕ) → w < m.sizes.words → (u : ℕ) → u < 8 → get_or (set m.opened t false) u false ≡ true
      → ((u ≡ t → ⊥) → u ≡ holder_in ls w → ⊥) → last_to w (b.pending u) ≡ none
  still-none w h u few begun apart =
      elim (ℕ_discrete u t) [
        | yes e ↦
            let known : t < length m.opened = omega (arith, core.shape.threads) in
            absurd (false≢true (sym (get_or-set_same m.opened t false false known) ∙ rw e at begun))
        | no ne ↦ (core.at w h).others u few (sym (get_or-set_other m.opened t u false false ne) ∙ begun) (apart ne)
      ]

  -- a word after it
  closed_at : (w : ℕ) → w < m.sizes.words
      → At (set m.opened t false) (rs ++ (Commit t ∷ [])) b.pending w (settled b.committed (b.pending t) w) (get_or home w 0)
      (get_or working w 0) (holder_in (map (released t) ls) w) (dirty_in (map (released t) ls) w) (state_in (map (released t) ls) w)
      (entries_of w m.buffers.undo_redo) (entries_of w m.buffers.redo)
  unfolding AllPrepared state_in holder_in dirty_in released
  closed_at w h =
      let before = core.at w h in
      rw (settled-word w b.committed (b.pending t))
      (subst (AtLine (set m.opened t false) _ b.pending w _ (get_or home w 0) (get_or working w 0) _ _)
      (sym (line-released t ls (w / 8) (λ e. omega arith)))
      (elim (ℕ_discrete (holder_in ls w) t) [
        | yes e ↦
            let left = prepared w h e in
            let own : Own w t rs = rw e at before.own in
            let newest = newest-known before.word.state left.0 left.1.0 left.1.1 in
            rw (eq-eqb (holder_in ls w) t e, left.0, left.1.0, state-clean)
            (record {
              own = own-closed w t nobody rs own;
              others = λ u few begun apart. still-none w h u few begun (λ ne q. ne (q ∙ e));
              word =
                  rw (says-own w t (dirty_in ls w) rs own)
                  (rw e at (committed-word (last_to w (b.pending nobody)) (rw e small) newest before.word));
            })
        | no ne ↦
            let other : t ≡ holder_in ls w → ⊥ = λ e. ne (sym e) in
            rw (ne_eqb (holder_in ls w) t ne)
            (record {
              own = own-end w (holder_in ls w) rs (Commit t) before.own (λ hit. absurd (false≢true hit));
              others = λ u few begun apart. still-none w h u few begun (λ _ q. apart q);
              word =
                  rw (says_other w (holder_in ls w) t (dirty_in ls w) rs before.own other, before.others t small began other)
                  before.word;
            })
      ]))

  pub close-step : 0 < m.sizes.words → Appends m home b rs (Commit t ∷ []) (close_next t m) working (entered (commit t) b)
  unfolding entered
  close-step wide =
      record {
        safe = λ k h. let none : k ≡ 0 = omega arith in rw (none, append-nil) (core-safe core);
        core =
            record {
              shape =
                  shape-owners core.shape (length-map ls (released t)) (length-set m.opened t false)
                  (every-mapped (LineOk (set m.opened t false)) (released t) ls
                  (every-implied (LineOk m.opened) (λ line. LineOk (set m.opened t false) (released t line)) ls (line-committed m.opened t)
                  core.shape.lines_ok));
              valid = every_append (Valid m.sizes.words) rs (Commit t ∷ []) core.valid (record { thread = small; word = wide }, tt);
              at = closed_at;
            };
      }

-- commit t: the one, then the other
pub commit-step : (m : Machine) (mem : Memory) (b : Book) (rs : List Record) (t : ℕ) → CoreOf m mem.home mem.working b rs
    → t < 8 → 0 < m.sizes.words → is_open m t ≡ true
    → Appends m mem.home b rs (commit_records m mem t) (commit_next m mem t) mem.working (entered (commit t) b)
unfolding commit_records prepare_next
commit-step m mem b rs t core small wide began =
    let first = prepare-step m mem b rs t core small in
    appends-then first
    (close-step (prepare_next m mem t) mem.home mem.working b (rs ++ prepare_records m mem t) t first.core small
    began (all-prepared m mem b rs t core small) wide)
    refl

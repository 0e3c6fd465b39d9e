-- Laws of a text that is read in pieces.
use Rattle.std.proofs.Common.{◌≡◌, ℕ, suc, ◌+◌, ◌-◌, ◌*◌, ◌^◌, ◌<◌, ◌≤◌, Bool, true, false, cond, ◌&&◌, eqb, ltb, leb, List, [], ◌∷◌, ◌++◌, length, get_or, take, drop, sym, refl, ap, ◌∙◌, append_assoc, append-nil, arith, length-append, length-drop, drop_of_length-le, length-take-le, take_all, drop-drop, take_at, drop_at, eq-eqb, ne_eqb, le-leb}
use borrow.Author.Tests.{lt-leb}
use borrow.Rule.Slice.PartMut.{mid_of, put_mid}
use lib.Seq.{take-append_seam}
use Rattle.formats.specs.declared.numerals.Number.{Number}
use Rattle.formats.specs.declared.numerals.Number.TheVariants.{Blank, Value, Invalid}
use Rattle.formats.specs.Decimal.{value_of}
use Rattle.formats.specs.Lines.{line_feed, last_lines, lines_from}
use Rattle.formats.specs.Number.{all_digits, fitted, number_in, with_byte}
use Rattle.formats.specs.Written.{filled, filled_with}
use Rattle.formats.proofs.Buffers.{filled-known}
use Rattle.formats.proofs.Numbers.{number-next, taken_next}
use Rattle.std.specs.Prelude.{Result, Ok, Err, IsOkAnd}
use Rattle.formats.specs.declared.answers.TooShort.{TooShort}
use Rattle.reading.specs.declared.stream.Fed.{Fed}
use Rattle.reading.specs.Stream.{printed_line, all_printed, Progress, output_before, read_on, printed_last, read_all, fed_with, Filling, fed_into, filling}
use Rattle.reading.specs.Claim.{joined, StreamClaim}
use Rattle.reading.proofs.Texts.{text-longest}

-- a printed line has at most 22 bytes
pub line-longest : (n : Number) → length (printed_line n) ≤ 22
line-longest Blank = omega arith
line-longest Invalid = omega arith
line-longest (Value w) = simp length-append (omega (arith, text-longest w))

-- so a piece prints at most 22 bytes for each of its own
pub output-longest : (n : Number) (piece : List ℕ) → length (read_on n piece).output ≤ 22 * length piece
unfolding read_on
output-longest n [] = omega arith
output-longest n (byte ∷ piece) =
    pick (eqb byte line_feed) (output-longest Blank piece) (output-longest (with_byte n byte) piece)
  where
    pick : (b : Bool) → length (read_on Blank piece).output ≤ 22 * length piece → length (read_on (with_byte n byte) piece).output ≤ 22 * length piece
        → length (cond b (output_before (printed_line n) (read_on Blank piece)) (read_on (with_byte n byte) piece)).output ≤ 22 * suc (length piece)
    pick true h k = simp length-append (omega (arith, line-longest n))
    pick false h k = omega arith

-- a piece after a piece
pub read-append : (n : Number) (xs ys : List ℕ) → read_on n (xs ++ ys) ≡ output_before (read_on n xs).output (read_on (read_on n xs).number ys)
unfolding read_on
read-append n [] ys = refl
read-append n (x ∷ xs) ys = pick (eqb x line_feed) (read-append Blank xs ys) (read-append (with_byte n x) xs ys)
  where
    line : List ℕ
    line = printed_line n

    at : Bool → List ℕ → Progress
    at b zs = cond b (output_before line (read_on Blank zs)) (read_on (with_byte n x) zs)

    pick : (b : Bool) → read_on Blank (xs ++ ys) ≡ output_before (read_on Blank xs).output (read_on (read_on Blank xs).number ys)
        → read_on (with_byte n x) (xs ++ ys) ≡ output_before (read_on (with_byte n x) xs).output (read_on (read_on (with_byte n x) xs).number ys)
        → at b (xs ++ ys) ≡ output_before (at b xs).output (read_on (at b xs).number ys)
    pick true e f =
        ap (output_before line) e
        ∙ ap (λ (o : List ℕ). record { number = (read_on (read_on Blank xs).number ys).number; output = o }) (sym (append_assoc line _ _))
    pick false e f = f

-- a line feed, and any other byte
pub read-line-feed : (n : Number) (byte : ℕ) → byte ≡ line_feed → read_on n (byte ∷ []) ≡ record { number = Blank; output = printed_line n }
unfolding read_on
read-line-feed n byte e = rw (eq-eqb byte line_feed e) (ap (λ (o : List ℕ). record { number = Blank; output = o }) (append-nil (printed_line n)))

pub read-other : (n : Number) (byte : ℕ) → (byte ≡ line_feed → ⊥) → read_on n (byte ∷ []) ≡ record { number = with_byte n byte; output = [] }
unfolding read_on
read-other n byte ne = rw (ne_eqb byte line_feed ne)

-- the last line, if it has been begun
last-begun : (d : Bool) (v : ℕ) → printed_last (fitted d v) ≡ printed_line (fitted d v)
last-begun d v = pick (d && ltb v (2 ^ 64))
  where
    pick : (b : Bool) → printed_last (cond b (Value v) Invalid) ≡ printed_line (cond b (Value v) Invalid)
    pick true = refl
    pick false = refl

last-printed : (begun : List ℕ) → printed_last (number_in begun) ≡ all_printed (last_lines begun)
unfolding all_printed
last-printed [] = refl
last-printed (x ∷ xs) = last-begun (all_digits (x ∷ xs)) (value_of (x ∷ xs)) ∙ sym (append-nil _)

-- all that a text prints, from a number on
abbrev whole : Number → List ℕ → List ℕ
whole n text = (read_on n text).output ++ printed_last (read_on n text).number

-- what is printed for a text of which this much of the first line has been read
lines-printed : (text begun : List ℕ) → whole (number_in begun) text ≡ all_printed (lines_from begun text)
unfolding read_on lines_from all_printed
lines-printed [] begun = last-printed begun
lines-printed (byte ∷ text) begun = pick (eqb byte line_feed) (lines-printed text []) (lines-printed text (begun ++ (byte ∷ [])))
  where
    n : Number
    n = number_in begun

    at : Bool → Progress
    at b = cond b (output_before (printed_line n) (read_on Blank text)) (read_on (with_byte n byte) text)

    pick : (b : Bool) → whole Blank text ≡ all_printed (lines_from [] text)
        → whole (number_in (begun ++ (byte ∷ []))) text ≡ all_printed (lines_from (begun ++ (byte ∷ [])) text)
        → (at b).output ++ printed_last (at b).number ≡ all_printed (cond b (begun ∷ lines_from [] text) (lines_from (begun ++ (byte ∷ [])) text))
    pick true e f = append_assoc (printed_line n) _ _ ∙ ap (λ (o : List ℕ). printed_line n ++ o) e
    pick false e f = rw (← number-next begun byte) f

-- pieces one after the other are read as one
pieces-read : (pieces : List (List ℕ)) (n : Number) → read_all n pieces ≡ read_on n (joined pieces)
unfolding read_all read_on joined
pieces-read [] n = refl
pieces-read (piece ∷ pieces) n =
    ap (output_before (read_on n piece).output) (pieces-read pieces (read_on n piece).number) ∙ sym (read-append n piece (joined pieces))

-- what a buffer with room has at its start
fed-printed : (n : Number) (piece buffer : List ℕ) → 22 * length piece ≤ length buffer
    → let r = fed_with n piece buffer in
    IsOkAnd r.fed (λ fed. (fed.number ≡ (read_on n piece).number) × (take fed.length r.buffer ≡ (read_on n piece).output))
unfolding fed_with
fed-printed n piece buffer h =
    rw (le-leb (22 * length piece) (length buffer) h) (refl, take-append_seam (read_on n piece).output _)

last-longest : (n : Number) → length (printed_last n) ≤ 22
last-longest Blank = omega arith
last-longest Invalid = line-longest Invalid
last-longest (Value w) = line-longest (Value w)

last-finished : (n : Number) (buffer : List ℕ) → 22 ≤ length buffer
    → let r = filled_with (printed_last n) buffer in IsOkAnd r.written (λ size. take size r.buffer ≡ printed_last n)
unfolding filled_with
last-finished n buffer h =
    rw (le-leb (length (printed_last n)) (length buffer) (omega (arith, last-longest n)))
    (take-append_seam (printed_last n) _)

pub stream-claim : StreamClaim
stream-claim = record {
  fed = fed-printed;
  finished = last-finished;
  pieces = λ pieces.
      ap (λ (p : Progress). p.output ++ printed_last p.number) (pieces-read pieces Blank) ∙ lines-printed (joined pieces) [];
}

-- what was handed back is no refusal, or one value
pub no_refusal : {A : Type 0} {T : Type 0} {r : Result T TooShort} {e : TooShort} (x : T) → r ≡ Err e → r ≡ Ok x → A
no_refusal {T} {e} x f g =
    let h : ◌≡◌ {A = Result T TooShort} (Err e) (Ok x) = sym f ∙ g in
    absurd (let z : ◌≡◌ {A = ℕ} 0 1 = cc in omega arith)

pub same-Ok : {T : Type 0} {r : Result T TooShort} {x : T} (y : T) → r ≡ Ok x → r ≡ Ok y → x ≡ y
same-Ok {T} {x} y f g = let h : ◌≡◌ {A = Result T TooShort} (Ok x) (Ok y) = sym f ∙ g in cc

-- a buffer with room for a line isn't refused at the end
pub last-room : (n : Number) (buffer after : List ℕ) (r : Result ℕ TooShort)
    → filled r after ≡ filled_with (printed_last n) buffer → 22 ≤ length buffer → r ≡ Ok (length (printed_last n))
last-room n buffer after r e h =
    let short = last-longest n in (filled-known (printed_last n) buffer r after (omega arith) e).0

-- What is handed back for a piece, by the room that the buffer has.
module _ (n : Number) (piece buffer : List ℕ) where
  pub fed-short : length buffer < 22 * length piece → filling (Err (record {})) buffer ≡ fed_with n piece buffer
  unfolding fed_with
  fed-short h = rw (lt-leb (22 * length piece) (length buffer) h)

  pub fed-whole : (p : Progress) → 22 * length piece ≤ length buffer → read_on n piece ≡ p → fed_into p buffer ≡ fed_with n piece buffer
  unfolding fed_with
  fed-whole p h e = rw (le-leb (22 * length piece) (length buffer) h, e)

  -- a buffer with room isn't refused, and the length that is handed back is within it
  pub fed-room : (r : Result Fed TooShort) (after : List ℕ) → filling r after ≡ fed_with n piece buffer
      → 22 * length piece ≤ length buffer → r ≡ Ok (record { number = (read_on n piece).number; length = length (read_on n piece).output })
  fed-room r after e h = ap (λ (x : Filling). x.fed) (e ∙ sym (fed-whole (read_on n piece) h refl))

  pub fed-within : (r : Result Fed TooShort) (after : List ℕ) (fed : Fed) → filling r after ≡ fed_with n piece buffer
      → r ≡ Ok fed → fed.length ≤ length after
  unfolding fed_with
  fed-within r after fed e g = pick (leb (22 * length piece) (length buffer)) (rw g at e)
    where
      pick : (b : Bool)
          → filling (Ok fed) after ≡ cond b (fed_into (read_on n piece) buffer) (filling (Err (record {})) buffer)
          → fed.length ≤ length after
      pick true f =
          let is = same-Ok _ refl (ap (λ (x : Filling). x.fed) f) in
          rw (ap (λ (x : Filling). x.buffer) f, is, length-append) (omega arith)
      pick false f = no_refusal fed (ap (λ (x : Filling). x.fed) f) refl

-- a line feed, of which the line has been put into the buffer
pub line-fed : (n : Number) (byte : ℕ) (buffer : List ℕ) → byte ≡ line_feed → 22 ≤ length buffer
    → (r : Result ℕ TooShort) (after : List ℕ) {size : ℕ} → filled r after ≡ filled_with (printed_line n) buffer
    → r ≡ Ok size → filling (Ok (record { number = Blank; length = size })) after ≡ fed_with n (byte ∷ []) buffer
line-fed n byte buffer e h r after {size} f g =
    let line = line-longest n in
    let known = filled-known (printed_line n) buffer r after (omega arith) f in
    rw (same-Ok (length (printed_line n)) g known.0, known.1)
    (fed-whole n (byte ∷ []) buffer _ (omega arith) (read-line-feed n byte e))

-- A piece read up to byte `i`: `fed` is what has been read and printed so far.
module _ (n : Number) (piece buffer₀ : List ℕ) where
  abbrev so_far : ℕ → Progress
  so_far i = read_on n (take i piece)

  pub record FedTo (buffer : List ℕ) (fed : Fed) (i : ℕ) : Type 0 where
    pub within : i ≤ length piece
    pub number : fed.number ≡ (so_far i).number
    pub printed : fed.length ≡ length (so_far i).output
    pub buffered : buffer ≡ (so_far i).output ++ drop fed.length buffer₀

  pub none_read : FedTo buffer₀ (record { number = n; length = 0 }) 0
  unfolding read_on
  none_read = record { within = omega arith; number = refl; printed = refl; buffered = refl }

  module _ (room : 22 * length piece ≤ length buffer₀) where
    pub all_read : (buffer : List ℕ) (fed : Fed) (i : ℕ) → FedTo buffer fed i → length piece ≤ i
        → filling (Ok fed) buffer ≡ fed_with n piece buffer₀
    all_read buffer fed i f h =
        let e : so_far i ≡ read_on n piece = ap (read_on n) (take_all i piece h) in
        rw (f.buffered, f.number, f.printed) (fed-whole n piece buffer₀ (so_far i) room (sym e))

    module _ (buffer : List ℕ) (fed : Fed) (i : ℕ) (f : FedTo buffer fed i) where
      pub length-within : fed.length ≤ 22 * i
      length-within =
          let short = output-longest n (take i piece) in
          let size = length-take-le i piece f.within in
          let e = f.printed in
          omega (arith, rw size at short)

      kept : length buffer ≡ length buffer₀
      kept =
          let w = length-within in let e = f.printed in let l = f.within in
          ap length f.buffered ∙ simp (length-append, length-drop) (omega arith)

      -- a byte that is no line feed prints nothing
      pub other-read : i < length piece → (get_or piece i 0 ≡ line_feed → ⊥)
          → FedTo buffer (record { number = with_byte fed.number (get_or piece i 0); length = fed.length }) (i + 1)
      other-read h ne =
          let e : so_far (i + 1) ≡ output_before (so_far i).output (record { number = with_byte fed.number (get_or piece i 0); output = [] }) =
          ap (read_on n) (taken_next piece i h) ∙ read-append n (take i piece) (get_or piece i 0 ∷ [])
          ∙ ap (output_before (so_far i).output) (ap (λ (m : Number). read_on m (get_or piece i 0 ∷ [])) (sym f.number) ∙ read-other fed.number (get_or piece i 0) ne) in
          record {
            within = omega arith;
            number = rw e;
            printed = rw (e, append-nil) f.printed;
            buffered = rw (e, append-nil) f.buffered;
          }

      module _ (h : i < length piece) (r : Result Fed TooShort) (part : List ℕ) where
        abbrev byte : ℕ
        byte = get_or piece i 0

        abbrev next : Progress
        next = read_on fed.number (byte ∷ [])

        before : take fed.length buffer ≡ (so_far i).output
        before = rw f.buffered (take_at (so_far i).output (drop fed.length buffer₀) fed.length (sym f.printed))

        behind : drop fed.length buffer ≡ drop fed.length buffer₀
        behind = rw f.buffered (drop_at (so_far i).output (drop fed.length buffer₀) fed.length (sym f.printed))

        rest : length (drop fed.length buffer₀) ≡ length buffer - fed.length
        rest = length-drop fed.length buffer₀ ∙ ap (λ (k : ℕ). k - fed.length) (sym kept)

        lent : mid_of fed.length (length buffer - fed.length) buffer ≡ drop fed.length buffer₀
        lent = rw behind (take_all (length buffer - fed.length) (drop fed.length buffer₀) (omega (arith, rest)))

        module _
            (e : filling r part ≡ fed_with fed.number (byte ∷ []) (mid_of fed.length (length buffer - fed.length) buffer)) where
          known : filling r part ≡ fed_into next (drop fed.length buffer₀)
          known =
              let w = length-within in
              let room-left : 22 ≤ length (drop fed.length buffer₀) = omega (arith, rest, kept) in
              e ∙ ap (fed_with fed.number (byte ∷ [])) lent
              ∙ sym (fed-whole fed.number (byte ∷ []) (drop fed.length buffer₀) next room-left refl)

          pub fed-is : r ≡ Ok (record { number = next.number; length = length next.output })
          fed-is = ap (λ (x : Filling). x.fed) known

          part-is : part ≡ next.output ++ drop (length next.output) (drop fed.length buffer₀)
          part-is = ap (λ (x : Filling). x.buffer) known

          read_next : so_far (i + 1) ≡ output_before (so_far i).output next
          read_next =
              ap (read_on n) (taken_next piece i h) ∙ read-append n (take i piece) (byte ∷ [])
              ∙ ap (λ (m : Number). output_before (so_far i).output (read_on m (byte ∷ []))) (sym f.number)

          put_back : put_mid fed.length (length buffer - fed.length) buffer part
              ≡ ((so_far i).output ++ next.output) ++ drop (fed.length + length next.output) buffer₀
          put_back =
              let none : drop (length buffer - fed.length) (drop fed.length buffer) ≡ [] =
              rw behind (drop_of_length-le (drop fed.length buffer₀) {i = length buffer - fed.length} (omega (arith, rest))) in
              rw (before, none, part-is, append-nil, drop-drop) (sym (append_assoc (so_far i).output next.output _))

          pub byte-read : (more : Fed) → r ≡ Ok more
              → FedTo (put_mid fed.length (length buffer - fed.length) buffer part)
              (record { number = more.number; length = fed.length + more.length }) (i + 1)
          byte-read more g = rw (same-Ok _ g fed-is, put_back) record {
            within = omega arith;
            number = ap (λ (p : Progress). p.number) (sym read_next);
            printed = rw read_next (sym (length-append (so_far i).output next.output ∙ ap (λ (k : ℕ). k + length next.output) (sym f.printed)));
            buffered = rw read_next;
          }

      -- a line feed prints its line into what is left of the buffer, which has room for it
      module _ (h : i < length piece) (r : Result ℕ TooShort) (part : List ℕ)
          (put : filled r part ≡ filled_with (printed_line fed.number) (mid_of fed.length (length buffer - fed.length) buffer)) where
        line-room : 22 ≤ length (mid_of fed.length (length buffer - fed.length) buffer)
        line-room =
            let w = length-within in
            rw (lent h (Ok fed) part) (omega (arith, rest h (Ok fed) part, kept))

        pub line-put : r ≡ Ok (length (printed_line fed.number))
        line-put =
            let line = line-longest fed.number in
            let large = line-room in
            (filled-known (printed_line fed.number) _ r part (omega arith) put).0

        pub line-read : (size : ℕ) → get_or piece i 0 ≡ line_feed → r ≡ Ok size
            → FedTo (put_mid fed.length (length buffer - fed.length) buffer part) (record { number = Blank; length = fed.length + size }) (i + 1)
        line-read size e g =
            byte-read h (Ok (record { number = Blank; length = size })) part
            (line-fed fed.number (get_or piece i 0) _ e line-room r part put g) (record { number = Blank; length = size }) refl

-- The loop over the records of a file: what is left of the file, read from the job so far, is the whole file read. Assumes nothing.
use mathlib.Core.Path.{◌≡◌, refl, sym, ap, subst, ◌∙◌}
use mathlib.Core.List.{List, []}
use Prim.Native.Nat.{ℕ, ◌+◌, ◌≤◌, ◌<◌}
use native.Mathlib.Omega.{arith}
use lib.ListN.{length, drop}
use Rattle.std.specs.Prelude.{Result, Ok, Err}
use lib.Seq.{length-take-le}
use borrow.Author.Tests.{eq-eqb, ne_eqb}
use Rattle.lists.proofs.Fronts.{drop_further, onto-is}
use Rattle.lists.proofs.Parts.{left-none}
use Rattle.lists.proofs.Refusals.{refusal-some}
use Rattle.lists.specs.Refusals.{number_of}
use Rattle.lists.specs.declared.refusal.Refusal.{Refusal}
use Rattle.lists.specs.declared.refusal.Refusal.TheVariants.{Malformed}
use Rattle.job_file.specs.declared.read.Head.{Head}
use Rattle.job_file.specs.declared.read.Engine.{Engine}
use Rattle.job_file.specs.declared.read.Stage.{Stage}
use Rattle.job_file.specs.declared.read.Stage.TheVariants.{Start, Sized, Ended}
use Rattle.job_file.specs.declared.read.Fault.{Fault}
use Rattle.job_file.specs.declared.read.Sound.{Sound}
use Rattle.job_file.specs.Records.{Record, SZ, EN, RH, GO, Wrong, size, first, records}
use Rattle.job_file.specs.Faults.{fault, turn, malformed, oversized, outside, fallen, repeated, complete, at_end}
use Rattle.job_file.specs.Reading.{Outcome, reads, read_file}
use Rattle.job_file.specs.Arrays.{Arrays, arrays, laid, Numbers, head_of, said, answered, Within}
use Rattle.job_file.specs.Told.{place_of, engine_of}
use Rattle.job_file.specs.Keeping.{held_by, Room, Fits, Behind, Kept}
use Rattle.job_file.proofs.Laying.{head}
use Rattle.job_file.proofs.Walking.{within_file, rest-is, reads_on, reads_stop, reads_end}

-- values and right side play no part in a fault
seen : (h : Head) (l : Arrays) (r : Record) → fault (held_by h (arrays l.rows l.columns [] [])) r ≡ fault (held_by h l) r
unfolding fault turn malformed oversized outside fallen repeated complete
seen h l (SZ n count) = refl
seen h l (EN row column bits) = refl
seen h l (RH row bits) = refl
seen h l (GO engine) = refl
seen h l Wrong = refl

-- a file that has come to its end names an engine
at_the_end : (g : Stage) → place_of g ≡ 2 → ((e : Engine) → g ≡ Ended e → ⊥) → ⊥
at_the_end Start e n = omega arith
at_the_end Sized e n = omega arith
at_the_end (Ended engine) e n = n engine refl

pub record Going (s : List ℕ) (old : Arrays) (h : Head) (at : ℕ) (new : Arrays) : Type 0 where
  pub within : at ≤ length s
  pub rest : reads (records (drop at s)) (held_by h new) ≡ read_file s
  pub fits : Fits h new
  pub behind : Behind h old new

pub going_start : (s : List ℕ) (old : Arrays) → Room old → Going s old (head Start 0 0 0 0) 0 old
unfolding read_file
going_start s old v =
    record {
      within = omega arith;
      rest = refl;
      fits = record { room = v; n = omega arith; count = omega arith; entries = omega arith; fresh = λ e. (refl, refl) };
      behind = record { rows = refl; columns = refl; values = refl; right = refl };
    }

-- what the reader answers and leaves
abbrev pub Read : List ℕ → Arrays → Result Sound Fault → Arrays → Type 0
Read s old a new = (said a ≡ answered (read_file s)) × (new ≡ laid (read_file s).job old) × Within (read_file s).job

module _ {s : List ℕ} {old : Arrays} {h : Head} {at : ℕ} {new : Arrays} (v : Going s old h at new) where
  pub going_entries : (h.entries ≤ length new.rows) × (h.entries ≤ length new.columns)
  going_entries =
      let f = v.fits in
      (omega (arith, f.entries, f.count, f.room.rows), omega (arith, f.entries, f.count, f.room.columns))

  abbrev numbers : Numbers
  numbers = record { stage = place_of h.stage; n = h.n; count = h.count; entries = h.entries; next = h.next; engine = engine_of h.stage }

  head-is : head_of (held_by h new) ≡ numbers
  head-is =
      let e = length-take-le h.entries new.rows going_entries.0 in
      λ k. record { stage = place_of h.stage; n = h.n; count = h.count; entries = e k; next = h.next; engine = engine_of h.stage }

  laid-is : laid (held_by h new) old ≡ new
  unfolding laid
  laid-is =
      let f = v.fits in
      let b = v.behind in
      let er = onto-is h.entries new.rows old.rows going_entries.0 b.rows in
      let ec = onto-is h.entries new.columns old.columns going_entries.1 b.columns in
      let ev = onto-is h.entries new.values old.values (omega (arith, f.entries, f.count, f.room.values)) b.values in
      let eb = onto-is h.n new.right old.right (omega (arith, f.n, f.room.right)) b.right in
      λ k. arrays (er k) (ec k) (ev k) (eb k)

  within-is : Within (held_by h new)
  within-is =
      let f = v.fits in
      let lr = length-take-le h.entries new.rows going_entries.0 in
      let lc = length-take-le h.entries new.columns going_entries.1 in
      let lv = length-take-le h.entries new.values (omega (arith, f.entries, f.count, f.room.values)) in
      let lb = length-take-le h.n new.right (omega (arith, f.n, f.room.right)) in
      record { n = f.n; entries = omega (arith, lr, f.entries, f.count); columns = lc ∙ sym lr; values = lv ∙ sym lr; right = lb }

  answer_is : {x : ℕ} (a : Result Sound Fault) → said a ≡ record { number = x; head = numbers }
      → read_file s ≡ record { number = x; job = held_by h new }
      → Read s old a new
  answer_is {x = x} a f e = (
    f ∙ sym (ap answered e ∙ ap (λ (y : Numbers). record { number = x; head = y }) head-is),
    sym (ap (λ (o : Outcome). laid o.job old) e ∙ laid-is),
    subst (λ (o : Outcome). Within o.job) (sym e) within-is,
  )

  pub going_sound : {r : Record} → (0 ≡ fault (held_by h (arrays new.rows new.columns [] [])) (first (drop at s))) × (r ≡ first (drop at s))
      → fault (held_by h new) r ≡ 0
  going_sound c = rw c.1 (sym (c.0 ∙ seen h new (first (drop at s))))

  pub going_stop : (e : Refusal) → at < length s → number_of e ≡ fault (held_by h (arrays new.rows new.columns [] [])) (first (drop at s))
      → Read s old (Err (record { refusal = e; head = h })) new
  going_stop e l f =
      let r = first (drop at s) in
      let g : number_of e ≡ fault (held_by h new) r = f ∙ seen h new r in
      answer_is (Err (record { refusal = e; head = h })) refl
      (sym v.rest
      ∙ ap (λ (rs : List Record). reads rs (held_by h new)) (rest-is s at l refl refl)
      ∙ reads_stop r _ (held_by h new) (λ q. refusal-some e (g ∙ q))
      ∙ ap (λ (y : ℕ). record { number = y; job = held_by h new }) (sym g))

  pub going_turn : {r : Record} {x : Head} {next : Arrays} {k : ℕ} → at < length s → r ≡ first (drop at s) → fault (held_by h new) r ≡ 0
      → Kept h new r x next → k ≡ size r → Going s old x (at + k) next
  going_turn {r = r} {x = x} {next = next} {k = k} l e z w f =
      let b = v.behind in
      let d = w.behind in
      record {
        within = (within_file s at l e f).0;
        rest =
            ap (reads (records (drop (at + k) s))) w.is
            ∙ sym (reads_on r _ (held_by h new) z)
            ∙ ap (λ (rs : List Record). reads rs (held_by h new)) (sym (rest-is s at l e f))
            ∙ v.rest;
        fits = w.fits;
        behind = record {
          rows = d.rows ∙ drop_further h.entries x.entries new.rows old.rows w.more b.rows;
          columns = d.columns ∙ drop_further h.entries x.entries new.columns old.columns w.more b.columns;
          values = d.values ∙ drop_further h.entries x.entries new.values old.values w.more b.values;
          right = d.right ∙ drop_further h.n x.n new.right old.right w.wider b.right;
        };
      }

  ended : length s ≤ at → read_file s ≡ record { number = at_end (held_by h new); job = held_by h new }
  ended l = sym v.rest ∙ ap (λ (t : List ℕ). reads (records t) (held_by h new)) (left-none s at l) ∙ reads_end (held_by h new)

  pub going_short : length s ≤ at → ((engine : Engine) → h.stage ≡ Ended engine → ⊥) → Read s old (Err (record { refusal = Malformed; head = h })) new
  unfolding at_end
  going_short l e =
      answer_is (Err (record { refusal = Malformed; head = h })) refl (ended l ∙ simp (ne_eqb (place_of h.stage) 2 (λ n. at_the_end h.stage n e)))

  pub going_done : {engine : Engine} → length s ≤ at → h.stage ≡ Ended engine
      → Read s old (Ok (record { engine = engine; n = h.n; count = h.count; entries = h.entries; next = h.next })) new
  unfolding at_end
  going_done {engine = engine} l e = answer_is (Ok (record { engine = engine; n = h.n; count = h.count; entries = h.entries; next = h.next }))
      (sym (λ k. record {
        number = 0;
        head =
            record { stage = place_of (e k); n = h.n; count = h.count; entries = h.entries; next = h.next; engine = engine_of (e k) };
      }))
      (ended l ∙ simp (eq-eqb (place_of h.stage) 2 (ap place_of e)))

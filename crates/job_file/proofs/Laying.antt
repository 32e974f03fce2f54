-- What `keep` leaves: one law for each kind of record. Assumes nothing.
use mathlib.Core.Path.{◌≡◌, refl, sym, ap, ◌∙◌}
use mathlib.Core.List.{List, ◌++◌}
use Prim.Native.Nat.{ℕ, ◌+◌, ◌≤◌, ◌<◌}
use native.Mathlib.Omega.{arith}
use lib.Ieee.{Float, binary64, of_bits}
use lib.ListN.{length, take, drop, set, replicate, length-set, length-replicate}
use lib.Seq.{length-take-le, take_at, drop_at, take-set-lt, drop-set-lt}
use Rattle.lists.specs.Calls.{none, cleared}
use Rattle.lists.proofs.Clearing.{length-cleared}
use Rattle.lists.proofs.Fronts.{take_more, drop_more, cleared-is}
use Rattle.job_file.specs.declared.record.Found.{Found}
use Rattle.job_file.specs.declared.record.Found.TheVariants.{Size, Entry, Right, Go}
use Rattle.job_file.specs.declared.read.Head.{Head}
use Rattle.job_file.specs.declared.read.Engine.{Engine}
use Rattle.job_file.specs.declared.read.Stage.{Stage}
use Rattle.job_file.specs.declared.read.Stage.TheVariants.{Start, Sized, Ended}
use Rattle.job_file.specs.Faults.{Job, fault}
use Rattle.job_file.specs.Reading.{place, entries, with_entry, taken}
use Rattle.job_file.specs.Arrays.{Arrays, arrays}
use Rattle.job_file.specs.Told.{place_of, engine_of, told}
use Rattle.job_file.specs.Keeping.{held_by, Fits, Kept}
use Rattle.job_file.proofs.Meaning.{sz_means, en_means, rh_means}

abbrev pub head : Stage → ℕ → ℕ → ℕ → ℕ → Head
head stage n count entries next = record { stage = stage; n = n; count = count; entries = entries; next = next }

-- before SZ no engine is named
unnamed : (s : Stage) → place_of s ≡ 0 → 0 ≡ engine_of s
unnamed Start e = refl
unnamed Sized e = refl
unnamed (Ended engine) e = absurd (omega arith)

module _ (h : Head) (l : Arrays) (v : Fits h l) (r : Found) (z : fault (held_by h l) (told r) ≡ 0) where
  held : h.entries ≤ length l.rows
  held = omega (arith, v.room.rows, v.entries, v.count)

  abbrev taking : Found → Job
  taking x = taken (held_by h l) (told x)

  -- the fault of a record that is known
  none_of : {x : Found} → r ≡ x → fault (held_by h l) (told x) ≡ 0
  none_of e = sym (ap (λ (y : Found). fault (held_by h l) (told y)) e) ∙ z

  pub kept-size : {n count w : ℕ} {right : List Float} → r ≡ Size n count → w ≡ n → right ≡ cleared none w l.right
      → Kept h l (told r) (head Sized n count h.entries h.next) (arrays l.rows l.columns l.values right)
  unfolding taken
  kept-size {n = n} {count = count} {w = w} {right = right} e f g =
      let m = sz_means (held_by h l) n count (none_of e) in
      let fresh = v.fresh m.0 in
      let g1 : right ≡ cleared none n l.right = rw f at g in
      let g2 : right ≡ replicate n none ++ drop n l.right = g1 ∙ cleared-is none n l.right (omega (arith, m.1, v.room.right)) in
      let t = ap (take n) g2 ∙ take_at (replicate n none) (drop n l.right) n (length-replicate n none) in
      let u = unnamed h.stage m.0 in
      let long : length right ≡ length l.right = ap length g1 ∙ length-cleared none n l.right in
      record {
        is =
            (λ k. record {
              place = place 1 h.next;
              n = n;
              count = count;
              entries = entries (take h.entries l.rows) (take h.entries l.columns) (take h.entries l.values);
              right = t k;
              engine = u k;
            })
            ∙ sym (ap taking e);
        fits =
            record {
              room = record { rows = v.room.rows; columns = v.room.columns; values = v.room.values; right = omega (arith, v.room.right, long) };
              n = m.1;
              count = m.2;
              entries = omega (arith, fresh.1);
              fresh = λ f. absurd (omega arith);
            };
        behind = record {
          rows = refl;
          columns = refl;
          values = refl;
          right = ap (drop n) g2 ∙
              drop_at (replicate n none) (drop n l.right) n (length-replicate n none);
        };
        more = omega arith;
        wider = omega (arith, fresh.0);
      }

  pub entry_fits : {row column bits w : ℕ} → r ≡ Entry row column bits → w ≡ h.entries → (w < length l.rows) × (w < length l.columns) ×
      (w < length l.values) × (w < 2048)
  entry_fits {row = row} {column = column} {bits = bits} e f =
      let m = en_means (held_by h l) row column bits (none_of e) in
      let ne = m.1 in
      let lt : h.entries < h.count = omega (arith, v.entries, ne, length-take-le h.entries l.rows held) in
      (omega (arith, v.count, v.room.rows), omega (arith, v.count, v.room.columns), omega (arith, v.count, v.room.values), omega (arith, v.count))

  entry_kept : {row column bits : ℕ} → r ≡ Entry row column bits
      → Kept h l (told r) (head h.stage h.n h.count (h.entries + 1) h.next)
      (arrays (set l.rows h.entries row) (set l.columns h.entries column) (set l.values h.entries (of_bits binary64 bits)) l.right)
  unfolding taken with_entry
  entry_kept {row = row} {column = column} {bits = bits} e =
      let m = en_means (held_by h l) row column bits (none_of e) in
      let ne = m.1 in
      let i = entry_fits e refl in
      let b : Float = of_bits binary64 bits in
      let er = take_more l.rows h.entries row i.0 in
      let ec = take_more l.columns h.entries column i.1 in
      let ev = take_more l.values h.entries b i.2 in
      record {
        is =
            (λ k. record {
              place = place (place_of h.stage) h.next;
              n = h.n;
              count = h.count;
              entries = entries (er k) (ec k) (ev k);
              right = take h.n l.right;
              engine = engine_of h.stage;
            })
            ∙ sym (ap taking e);
        fits =
            record {
              room = record {
                rows = omega (arith, v.room.rows, length-set l.rows h.entries row);
                columns = omega (arith, v.room.columns, length-set l.columns h.entries column);
                values = omega (arith, v.room.values, length-set l.values h.entries b);
                right = v.room.right;
              };
              n = v.n;
              count = v.count;
              entries = omega (arith, v.entries, ne, length-take-le h.entries l.rows held);
              fresh = λ f. absurd (omega (arith, m.0, f));
            };
        behind = record {
          rows = drop_more l.rows h.entries row;
          columns = drop_more l.columns h.entries column;
          values = drop_more l.values h.entries b;
          right = refl;
        };
        more = omega arith;
        wider = omega arith;
      }

  pub kept_entry : {row column bits w : ℕ} {x : Float} → r ≡ Entry row column bits → w ≡ h.entries → x ≡ of_bits binary64 bits
      → Kept h l (told r) (head h.stage h.n h.count (h.entries + 1) h.next)
      (arrays (set l.rows w row) (set l.columns w column) (set l.values w x) l.right)
  kept_entry e f g = rw (f, g) (entry_kept e)

  pub right-fits : {row bits w : ℕ} → r ≡ Right row bits → w ≡ row → (w < length l.right) × (row < 256)
  right-fits {row = row} {bits = bits} e f =
      let m = rh_means (held_by h l) row bits (none_of e) in
      (omega (arith, m.1, v.n, v.room.right), omega (arith, m.1, v.n))

  right_kept : {row bits : ℕ} → r ≡ Right row bits
      → Kept h l (told r) (head h.stage h.n h.count h.entries (row + 1))
      (arrays l.rows l.columns l.values (set l.right row (of_bits binary64 bits)))
  unfolding taken
  right_kept {row = row} {bits = bits} e =
      let m = rh_means (held_by h l) row bits (none_of e) in
      let b : Float = of_bits binary64 bits in
      record {
        is =
            ap (λ (t : List Float).
            record {
              place = place (place_of h.stage) (row + 1);
              n = h.n;
              count = h.count;
              entries = entries (take h.entries l.rows) (take h.entries l.columns) (take h.entries l.values);
              right = t;
              engine = engine_of h.stage;
            })
            (take-set-lt h.n l.right row b m.1)
            ∙ sym (ap taking e);
        fits =
            record {
              room = record {
                rows = v.room.rows;
                columns = v.room.columns;
                values = v.room.values;
                right = omega (arith, v.room.right, length-set l.right row b);
              };
              n = v.n;
              count = v.count;
              entries = v.entries;
              fresh = v.fresh;
            };
        behind = record { rows = refl; columns = refl; values = refl; right = drop-set-lt h.n l.right row b m.1 };
        more = omega arith;
        wider = omega arith;
      }

  pub kept-right : {row bits w : ℕ} {x : Float} → r ≡ Right row bits → w ≡ row → x ≡ of_bits binary64 bits
      → Kept h l (told r) (head h.stage h.n h.count h.entries (row + 1)) (arrays l.rows l.columns l.values (set l.right w x))
  kept-right e f g = rw (f, g) (right_kept e)

  pub kept_go : {engine : Engine} → r ≡ Go engine → Kept h l (told r) (head (Ended engine) h.n h.count h.entries h.next) l
  unfolding taken
  kept_go e =
      record {
        is = sym (ap taking e);
        fits = record { room = v.room; n = v.n; count = v.count; entries = v.entries; fresh = λ f. absurd (omega arith) };
        behind = record { rows = refl; columns = refl; values = refl; right = refl };
        more = omega arith;
        wider = omega arith;
      }

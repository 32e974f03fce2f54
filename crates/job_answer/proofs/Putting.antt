-- Bytes put one behind the other, and the loop of `put_rows`. Assumes nothing.
use mathlib.Core.Path.{◌≡◌, refl, sym, ap, ◌∙◌}
use mathlib.Core.List.{List, [], ◌∷◌, ◌++◌, append_assoc, append-nil}
use Prim.Native.Nat.{ℕ, ◌+◌, ◌*◌, ◌≤◌, ◌<◌}
use native.Mathlib.Omega.{arith}
use lib.Ieee.{Float, binary64, to_bits}
use lib.ListN.{length, get_or, take, drop, length-append}
use lib.Seq.{sets, sets-eq, length-sets, length-take-le, take_at, drop_at}
use Rattle.lists.proofs.Fronts.{drop_further}
use Rattle.lists.proofs.Parts.{left_at, left-none}
use Rattle.little.specs.Little.{bytes}
use Rattle.little.proofs.Putting.{length-bytes}
use Rattle.job_answer.specs.Lines.{XV, NO, bytes_of, text, rows}
use Rattle.job_answer.specs.Answer.{Put}

-- one behind the other
then : {a b c w u : List ℕ} {at e f : ℕ} → Put a at w e b → Put b e u f c → Put a at (w ++ u) f c
then {a = a} {b = b} {w = w} {u = u} {at = at} {e = e} {f = f} p q =
    record {
      end = omega (arith, p.end, q.end, length-append w u);
      front = q.front ∙ ap (λ (l : List ℕ). l ++ u) p.front ∙ append_assoc (take at a) w u;
      behind = q.behind ∙ drop_further e f b a (omega (arith, q.end)) p.behind;
    }

-- the bytes of one number, where there is room
number_put : (k x at e : ℕ) {old new : List ℕ} → e ≡ at + k → e ≤ length old → new ≡ sets old at (bytes k x) → Put old at (bytes k x) e new
number_put k x at e {old = old} h l s =
    let w : List ℕ = take at old ++ bytes k x in
    let b = length-bytes k x in
    let n : length w ≡ e = omega (arith, length-append (take at old) (bytes k x), length-take-le at old (omega arith)) in
    let r : at + length (bytes k x) ≡ e = omega arith in
    let t = s ∙ sets-eq (bytes k x) old at (omega arith) ∙ ap (λ (j : ℕ). w ++ drop j old) r in
    record {
      end = omega arith;
      front = ap (take e) t ∙ take_at w (drop e old) e n;
      behind = ap (drop e) t ∙ drop_at w (drop e old) e n;
    }

-- ---- one line
pub row_put : (row : ℕ) (x : Float) {a b c d : List ℕ} {at v : ℕ} → at + 14 ≤ length a
    → b ≡ sets a at (bytes 2 0x5658) → c ≡ sets b (at + 2) (bytes 4 row) → v ≡ to_bits binary64 x → d ≡ sets c (at + 6) (bytes 8 v)
    → Put a at (bytes_of (XV row x)) (at + 14) d
unfolding bytes_of
row_put row x {a = a} {b = b} {at = at} {v = v} h p q m r =
    let lb = ap length p ∙ length-sets a at (bytes 2 0x5658) in
    let lc = ap length q ∙ length-sets b (at + 2) (bytes 4 row) in
    let s = number_put 8 v (at + 6) (at + 14) (omega arith) (omega (arith, lb, lc)) r in
    let s1 = rw m at s in
    then (number_put 2 0x5658 at (at + 2) (omega arith) (omega arith) p)
    (then (number_put 4 row (at + 2) (at + 6) (omega arith) (omega (arith, lb)) q) s1)

pub refusal-put : (number column : ℕ) {a b c d : List ℕ} → 7 ≤ length a
    → b ≡ sets a 0 (bytes 2 0x4F4E) → c ≡ sets b 2 (bytes 1 number) → d ≡ sets c 3 (bytes 4 column) → Put a 0 (bytes_of (NO number column)) 7 d
unfolding bytes_of
refusal-put number column {a = a} {b = b} h p q r =
    let lb = ap length p ∙ length-sets a 0 (bytes 2 0x4F4E) in
    let lc = ap length q ∙ length-sets b 2 (bytes 1 number) in
    then (number_put 2 0x4F4E 0 2 (omega arith) (omega arith) p) (then (number_put 1 number 2 3 (omega arith) (omega (arith, lb)) q)
    (number_put 4 column 3 7 (omega arith) (omega (arith, lb, lc)) r))

-- ---- the rows so far
pub record Rows (old : List ℕ) (x : List Float) (out : List ℕ) (at row : ℕ) : Type 0 where
  pub here : at ≡ 14 * row
  pub rest : take at out ++ text (rows row (drop row x)) ≡ text (rows 0 x)
  pub behind : drop at out ≡ drop at old

pub rows_start : (old : List ℕ) (x : List Float) → Rows old x old 0 0
rows_start old x = record { here = refl; rest = refl; behind = refl }

text-one : (row : ℕ) (x : Float) (xs : List Float) → text (rows row (x ∷ xs)) ≡ bytes_of (XV row x) ++ text (rows (row + 1) xs)
unfolding text rows
text-one row x xs = refl

text-none : (row : ℕ) → text (rows row []) ≡ []
unfolding text rows
text-none row = refl

pub rows-turn : (d : Float) {old : List ℕ} {x : List Float} {out new : List ℕ} {at row e : ℕ} → Rows old x out at row → row < length x
    → (e ≡ at + 14) × Put out at (bytes_of (XV row (get_or x row d))) e new → Rows old x new e (row + 1)
rows-turn d {old = old} {x = x} {out = out} {new = new} {at = at} {row = row} {e = e} w h p =
    let f = w.rest in
    let g = rw (left_at x row d h, text-one row (get_or x row d) (drop (row + 1) x)) at f in
    record {
      here = omega (arith, p.0, w.here);
      rest =
          ap (λ (y : List ℕ). y ++ text (rows (row + 1) (drop (row + 1) x))) p.1.front
          ∙ append_assoc (take at out) (bytes_of (XV row (get_or x row d))) (text (rows (row + 1) (drop (row + 1) x)))
          ∙ g;
      behind = p.1.behind ∙ drop_further at e out old (omega (arith, p.0)) w.behind;
    }

pub rows-done : {old : List ℕ} {x : List Float} {out : List ℕ} {at row : ℕ} → 14 * length x ≤ length out → row ≡ length x → Rows old x out at row
    → (at ≡ 14 * length x) × Put old 0 (text (rows 0 x)) at out
rows-done {old = old} {x = x} {out = out} {at = at} {row = row} r h w =
    let f = w.rest in
    let g = rw (left-none x row (omega arith), text-none row) at f in
    let t : take at out ≡ text (rows 0 x) = sym (append-nil (take at out)) ∙ g in
    let e : length (take at out) ≡ at = length-take-le at out (omega (arith, w.here, h, r)) in
    let n : length (text (rows 0 x)) ≡ at = sym (ap length t) ∙ e in
    (omega (arith, h, w.here), record { end = omega (arith, n); front = t; behind = w.behind })

-- how long the rows are
length-row : (row : ℕ) (x : Float) → length (bytes_of (XV row x)) ≡ 14
unfolding bytes_of bytes
length-row row x = refl

pub length-rows : (row : ℕ) (xs : List Float) → length (text (rows row xs)) ≡ 14 * length xs
length-rows row [] = rw (text-none row)
length-rows row (x ∷ xs) =
    ap length (text-one row x xs)
    ∙ length-append (bytes_of (XV row x)) (text (rows (row + 1) xs))
    ∙ omega (arith, length-row row x, length-rows (row + 1) xs)

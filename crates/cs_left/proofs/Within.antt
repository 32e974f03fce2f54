-- The part between a column's two pointers, and the two steps of src/left.rt that hand such parts on. Assumes nothing.
use mathlib.Core.Path.{◌≡◌, refl, ap, ◌∙◌}
use mathlib.Core.List.{List}
use Prim.Native.Nat.{ℕ, ◌+◌, ◌≤◌}
use native.Mathlib.Omega.{arith}
use lib.Ieee.{Float, nan}
use lib.ListN.{length, get_or}
use Rattle.lists.specs.Entries.{Entries}
use Rattle.lists.specs.Folds.{along, over}
use Rattle.lists.specs.Parts.{part, placed}
use Rattle.lists.proofs.Parts.{length_part}
use Rattle.cs_matrix.specs.Matrix.{matrix, column}
use Rattle.cs_tree.specs.Pattern.{analysis}
use Rattle.cs_left.specs.Left.{put_at, quotients}
use Rattle.cs_left.specs.Steps.{zero_at, add_held, advance, Places, Crossings, Gathers, Finishes}

pub part-column : {A : Type 0} (p : List ℕ) (k : ℕ) {a e : ℕ} → a ≡ get_or p k 0 → e ≡ get_or p (k + 1) 0 → (l : List A) → part a e l ≡ column p k l
unfolding column
part-column p k x y l = rw (x, y) refl

-- ---- `finish`
module _ {k s e m : ℕ} {lp li next : List ℕ} {lx : List Float} (w : Finishes k lp li lx next m) (a : s ≡ get_or lp k 0)
    (b : e ≡ get_or lp (k + 1) 0) where
  pub finish_lx : e ≤ length lx
  finish_lx = omega (arith, w.in_lx)

  pub finish_asks : Places m (part s e li) (length (part s e lx))
  finish_asks = rw (part-column lp k a b li, length_part s e lx finish_lx, a, b) w.places

  pub finished : (d : Float) (x : List Float) {ys y : List Float} → (ys ≡ quotients d (part s e li) x) × (y ≡ along zero_at (part s e li) x)
      → (placed s e lx ys ≡ placed (get_or lp k 0) (get_or lp (k + 1) 0) lx (quotients d (column lp k li) x)) ×
      (y ≡ along zero_at (column lp k li) x)
  finished d x {ys} {y} g =
      let z = part-column lp k a b li in (
        ap (placed s e lx) (g.0 ∙ ap (λ (l : List ℕ). quotients d l x) z) ∙ (rw (a, b) refl),
        g.1 ∙ ap (λ (l : List ℕ). along zero_at l x) z,
      )

-- ---- `gather`
module _ {d k m : ℕ} {p i tr up ui lp li next : List ℕ} {v lx : List Float}
    (w : Gathers k (matrix d d p i v) (analysis tr up ui lp li) lx next m) where
  pub gather_loads : {rows : List ℕ} {vals : List Float} → rows ≡ column p k i → vals ≡ column p k v → Entries m rows vals
  gather_loads f g = rw (f, g) w.entries

  pub gather_adds : {us : List ℕ} {l : ℕ} → us ≡ column up k ui → l ≡ m → Crossings k us lp li lx next l
  gather_adds o l = rw (o, l) w.crossings

  module _ {rows us : List ℕ} {vals : List Float} (f : rows ≡ column p k i) (g : vals ≡ column p k v) (o : us ≡ column up k ui) where
    pub gathered : (y x : List Float) → y ≡ over (put_at k) rows vals x → {z : List Float} {next1 : List ℕ} →
        (z ≡ add_held k lp li lx us y) × (next1 ≡ along (advance k) us next)
        → (get_or z k nan ≡ get_or z k nan) × (z ≡ add_held k lp li lx (column up k ui) (over (put_at k) (column p k i) (column p k v) x)) ×
        (next1 ≡ along (advance k) (column up k ui) next)
    gathered y x q h = (refl, h.0 ∙ (rw (o, q, f, g) refl), h.1 ∙ (rw o refl))

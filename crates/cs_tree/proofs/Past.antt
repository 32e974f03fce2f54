-- Rows that rise have nothing more to tell once one of them is past the diagonal: the rest of them adds nothing to a column of U and
-- nothing to the tree. Assumes nothing.
use mathlib.Core.Path.{◌≡◌, refl, sym, ap, ◌∙◌}
use mathlib.Core.Bool.{true}
use mathlib.Core.List.{List, [], ◌∷◌, ◌++◌}
use Prim.Native.Nat.{ℕ, zero, suc, ◌+◌, ◌≤◌, ◌<◌}
use native.Mathlib.Omega.{arith}
use lib.ListN.{length, get_or, drop}
use lib.Seq.{get_or-drop}
use Rattle.lists.specs.Folds.{along}
use Rattle.lists.specs.Order.{rises}
use Rattle.lists.proofs.Folds.{Along, along-end}
use Rattle.lists.proofs.Ordering.{rises-apart}
use Rattle.lists.proofs.Parts.{left-none}
use Rattle.lists.proofs.Runs.{rises-drop}
use Rattle.cs_tree.specs.Tree.{Forest, forest, climb, climbs}
use Rattle.cs_tree.specs.Pattern.{paths}
use Rattle.cs_tree.proofs.Backward.{Backing}
use Rattle.cs_tree.proofs.Climbing.{Rows}
use Rattle.cs_tree.proofs.Steps.{climb_stop, path-over}
use Rattle.cs_tree.proofs.Walking.{front, Listing}

-- the first is the least
rises-first : (rows : List ℕ) → rises rows ≡ true → (m : ℕ) → m < length rows → get_or rows 0 0 ≤ get_or rows m 0
rises-first rows r zero l = omega arith
rises-first rows r (suc m) l = omega (arith, rises-apart rows r 0 (suc m) (omega arith) l)

-- a step that changes nothing at any row changes nothing along them
idle : {S : Type 0} (f : ℕ → S → S) (rows : List ℕ) (s : S) → ((m : ℕ) → m < length rows → f (get_or rows m 0) s ≡ s) → along f rows s ≡ s
unfolding along
idle f [] s h = refl
idle f (x ∷ l) s h = ap (along f l) (h 0 (omega arith)) ∙ idle f l s (λ m g. h (suc m) (omega arith))

-- ---- the rows' first is past the diagonal
pub paths_past : (par : List ℕ) (k : ℕ) (rows older : List ℕ) → rises rows ≡ true → k < get_or rows 0 0 → paths par k rows older ≡ older
unfolding paths
paths_past par k rows older r h =
    idle (front k par) rows older (λ m l. ap (λ (w : List ℕ). w ++ older)
    (path-over (suc k) par k (get_or rows m 0) older (omega (arith, rises-first rows r m l))))

pub climbs_past : (k : ℕ) (rows : List ℕ) (s : Forest) → rises rows ≡ true → k ≤ get_or rows 0 0 → climbs k rows s ≡ s
unfolding climbs
climbs_past k rows s r h = idle (climb k k) rows s (λ m l. climb_stop k k (get_or rows m 0) s (omega (arith, rises-first rows r m l)))

-- ---- a loop over the rows that stops at the q-th: it has done them all
first : (rows : List ℕ) (q : ℕ) → get_or (drop q rows) 0 0 ≡ get_or rows q 0
first rows q = get_or-drop q rows 0 0 ∙ ap (λ (m : ℕ). get_or rows m 0) {x = q + 0} {y = q} (omega arith)

all : {S : Type 0} {f : ℕ → S → S} {rows : List ℕ} {s₀ s : S} {q : ℕ} → Along f rows s₀ s q → along f (drop q rows) s ≡ s →
    Along f rows s₀ s (length rows)
unfolding along
all {f = f} {rows = rows} {s = s} v e = record {
  within = omega arith;
  rest = v.rest ∙ e ∙
      sym (ap (λ (m : List ℕ). along f m s) (left-none rows (length rows) (omega arith)));
}

pub paths-all : (k : ℕ) (par : List ℕ) {rows older₀ older : List ℕ} {q : ℕ} → Along (front k par) rows older₀ older q → rises rows ≡ true →
    k < get_or rows q 0 → Along (front k par) rows older₀ older (length rows)
unfolding paths
paths-all k par {rows = rows} {older = older} {q = q} v r h =
    all v (paths_past par k (drop q rows) older (rises-drop q rows r) (omega (arith, first rows q)))

pub climbs-all : (k : ℕ) {rows : List ℕ} {s₀ s : Forest} {q : ℕ} → Along (climb k k) rows s₀ s q → rises rows ≡ true → k ≤ get_or rows q 0 →
    Along (climb k k) rows s₀ s (length rows)
unfolding climbs
climbs-all k {rows = rows} {s = s} {q = q} v r h = all v (climbs_past k (drop q rows) s (rises-drop q rows r) (omega (arith, first rows q)))

unfoldable pub listing_past : {s k : ℕ} {par rows mark : List ℕ} {count q : ℕ} → Listing s k par rows mark count q → rises rows ≡ true →
    k < get_or rows q 0 → Listing s k par rows mark count (length rows)
listing_past {k = k} {par = par} v r h = record { older = v.older; is = paths-all k par v.is r h; marks = v.marks; counts = v.counts }

pub rows_past : {k : ℕ} {rows t₀ a₀ t a : List ℕ} {q : ℕ} → Rows k rows t₀ a₀ t a q → rises rows ≡ true → k ≤ get_or rows q 0 →
    forest t a ≡ climbs k rows (forest t₀ a₀)
unfolding climbs
rows_past {k = k} {rows = rows} v r h = along-end (climb k k) rows (climbs-all k v.is r h) (omega arith)

pub backing_past : {k : ℕ} {par rows held mark₀ mark : List ℕ} {top q : ℕ} → Backing k par rows held mark₀ mark top q → rises rows ≡ true →
    k < get_or rows q 0 → Backing k par rows held mark₀ mark top (length rows)
backing_past {k = k} {par = par} v r h = record { asks = v.asks; same = v.same; within = v.within; is = paths-all k par v.is r h; marks = v.marks }

-- The loops of src/column.rt. Assumes nothing.
use mathlib.Core.Path.{◌≡◌, refl, sym, ap, ◌∙◌}
use mathlib.Core.List.{List, [], ◌∷◌, ◌++◌, map}
use Prim.Native.Nat.{ℕ, ◌+◌, ◌≤◌, ◌<◌}
use native.Mathlib.Numerals.{add-one}
use native.Mathlib.Omega.{arith}
use lib.Ieee.{Float, nan, binary64, div}
use lib.ListN.{length, get_or, set, take, length-set, length-take, length-map}
use lib.Seq.{get_or-set_other, take-suc, take_all}
use borrow.Author.Tests.{le-leb, lt-leb}
use Rattle.lists.specs.Calls.{onto, none}
use Rattle.lists.specs.Folds.{along}
use Rattle.lists.proofs.Chosen.{map_more}
use Rattle.lists.proofs.Entries.{Passing, passing_turn}
use Rattle.lists.proofs.Folds.{Along, along-start, along-turn, along-end}
use Rattle.lists.proofs.Laying.{onto-whole}
use Rattle.lists.proofs.Parts.{onto-none, onto-more}
use Rattle.cs_left.specs.Left.{put_at, quotients}
use Rattle.cs_left.specs.Steps.{zero_at, Places}

-- ---- `load`
module _ (k z : ℕ) (v : Float) (x : List Float) where
  put-set : k ≤ z → set x z v ≡ put_at k z v x
  unfolding put_at
  put-set h = rw (le-leb k z h)

  put-none : z < k → x ≡ put_at k z v x
  unfolding put_at
  put-none h = rw (lt-leb k z h)

module _ {k : ℕ} {rows : List ℕ} {vals x₀ x : List Float} {q : ℕ} (w : Passing (put_at k) rows vals x₀ x q) (h : q < length rows) {z : ℕ}
    (e : z ≡ get_or rows q 0) where
  pub load_put : k ≤ z → Passing (put_at k) rows vals x₀ (set x z (get_or vals q nan)) (q + 1)
  load_put g = passing_turn w h e nan (length-set x z _) (put-set k z (get_or vals q nan) x g)

  pub load_pass : z < k → Passing (put_at k) rows vals x₀ x (q + 1)
  load_pass g = passing_turn w h e nan refl (put-none k z (get_or vals q nan) x g)

-- ---- `divide`
pub record Dividing (d : Float) (rows : List ℕ) (vals₀ x₀ vals x : List Float) (q : ℕ) : Type 0 where
  pub asks : Places (length x₀) rows (length vals₀)
  pub long : length x ≡ length x₀
  pub is : Along zero_at rows x₀ x q
  pub unread : (r : ℕ) → q ≤ r → r < length rows → get_or x (get_or rows r 0) nan ≡ get_or x₀ (get_or rows r 0) nan
  pub vals_are : vals ≡ onto vals₀ (quotients d (take q rows) x₀)

pub length-quotients : (d : Float) (rows : List ℕ) (x : List Float) → length (quotients d rows x) ≡ length rows
unfolding quotients
length-quotients d rows x = length-map rows _

quotients-more : (d : Float) (rows : List ℕ) (x : List Float) (q : ℕ) → q < length rows → quotients d (take (q + 1) rows) x
    ≡ quotients d (take q rows) x ++ (div binary64 (get_or x (get_or rows q 0) nan) d ∷ [])
unfolding quotients
quotients-more d rows x q h = let t : take (q + 1) rows ≡ take q rows ++ (get_or rows q 0 ∷ []) = rw add-one (take-suc rows q 0 h) in
    ap (map (λ p. div binary64 (get_or x p nan) d)) t ∙ map_more (λ p. div binary64 (get_or x p nan) d) (take q rows) (get_or rows q 0)

pub dividing_start : (d : Float) {rows : List ℕ} {vals x : List Float} → Places (length x) rows (length vals) → Dividing d rows vals x vals x 0
unfolding quotients
dividing_start d {rows} {vals} {x} a = record {
  asks = a;
  long = refl;
  is = along-start zero_at rows x;
  unread = λ r h g. refl;
  vals_are = onto-none vals;
}

module _ {d : Float} {rows : List ℕ} {vals₀ x₀ vals x : List Float} {q : ℕ} (w : Dividing d rows vals₀ x₀ vals x q) where
  front : q ≤ length rows → length (quotients d (take q rows) x₀) ≡ q
  front h = length-quotients d (take q rows) x₀ ∙ omega (arith, length-take q rows)

  module _ (h : q < length rows) {z : ℕ} (e : z ≡ get_or rows q 0) where
    pub dividing_turn : Dividing d rows vals₀ x₀ (set vals q (div binary64 (get_or x z nan) d)) (set x z none) (q + 1)
    unfolding zero_at
    dividing_turn =
        record {
          asks = w.asks;
          long = length-set x z none ∙ w.long;
          is = along-turn zero_at rows 0 w.is h (rw e);
          unread = λ r a b. get_or-set_other x z (get_or rows r 0) none nan (λ y. w.asks.once q r (omega arith) b (sym e ∙ sym y)) ∙
              w.unread r (omega arith) b;
          vals_are =
              let Q = quotients d (take q rows) x₀ in
              let n : q ≡ length Q = sym (front (omega arith)) in
              ap (λ (l : List Float). set l q (div binary64 (get_or x z nan) d)) w.vals_are
              ∙ ap (λ (a : Float). set (onto vals₀ Q) q (div binary64 a d)) (ap (λ (r : ℕ). get_or x r nan) e ∙ w.unread q (omega arith) h)
              ∙ ap (λ (m : ℕ). set (onto vals₀ Q) m (div binary64 (get_or x₀ (get_or rows q 0) nan) d)) n
              ∙ onto-more vals₀ Q (div binary64 (get_or x₀ (get_or rows q 0) nan) d) (omega (arith, w.asks.alike))
              ∙ ap (onto vals₀) (sym (quotients-more d rows x₀ q h));
        }

  pub dividing_end : length rows ≤ q → (vals ≡ quotients d rows x₀) × (x ≡ along zero_at rows x₀)
  dividing_end h = (
    w.vals_are ∙ ap (λ (l : List ℕ). onto vals₀ (quotients d l x₀)) (take_all q rows h) ∙
        onto-whole vals₀ (quotients d rows x₀) (length-quotients d rows x₀ ∙ sym w.asks.alike),
    along-end zero_at rows w.is h,
  )

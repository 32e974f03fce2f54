-- What `compare` answers and leaves, at each way out. Assumes nothing.
use Rattle.std.proofs.Common.{◌≡◌, ℕ, ◌+◌, ◌≤◌, Bool, true, false, cond, not, eqb, List, [], ◌∷◌, ◌++◌, length, sym, refl, ap, ◌∙◌, append_assoc}
use lib.Ieee.{Float}
use Rattle.lists.specs.Calls.{lowest, Scratch, scratch, narrow, wiped, worked, Lent, lent, leaves}
use Rattle.lists.specs.Keeping.{Kept}
use Rattle.lists.proofs.Calls.{first, then, early}
use Rattle.cs_matrix.specs.Matrix.{Pattern, pattern, needed, ValidPattern, judged_square}
use Rattle.cs_matrix.proofs.Squaring.{judged6, early_6, Prepared, unprepared}
use Rattle.cs_tree.specs.Pattern.{Analysis, analysed}
use Rattle.cs_pattern.specs.Columns.{columns}
use Rattle.cs_pattern.specs.Compare.{same, tight, number}
use Rattle.cs_pattern.proofs.Analysing.{square_valid, cleared-up, long1, long2, long3}

number_is : (a : Pattern) (room : ℕ) (held : Analysis) (old : Scratch) → number a room held old
    ≡ lowest (judged6 a old ++ ((7, tight room (analysed (columns a))) ∷ (8, not (same (analysed (columns a)) held)) ∷ []))
unfolding number
number_is a room held old =
    ap lowest (sym (append_assoc (judged_square a) ((6, narrow (needed a) old) ∷ [])
    ((7, tight room (analysed (columns a))) ∷ (8, not (same (analysed (columns a)) held)) ∷ [])))

pub at-refused : (a : Pattern) (room : ℕ) (held : Analysis) (old s : Scratch) {r : ℕ} → (r ≡ lowest (judged6 a old)) ×
    (s ≡ cond (eqb r 0) (wiped (needed a) old) old) → (r ≡ 0 → ⊥)
    → (r ≡ number a room held old) × (s ≡ worked r (needed a) old)
unfolding leaves
at-refused a room held old s e h = (
  first (judged6 a old) _ e.0 h ∙ sym (number_is a room held old),
  unprepared a old s e h ∙
      ap (λ (l : Lent Analysis). l.work) (early (judged6 a old) (early_6 a old) (needed a) held (lent held old) e.0 h),
)

-- from 7 on, and at 0, the scratch is cleared
late_work : (b c : Bool) (n : ℕ) (old : Scratch) {r : ℕ} → r ≡ lowest ((7, b) ∷ (8, c) ∷ []) → wiped n old ≡ worked r n old
unfolding worked
late_work true c n old e = rw e
late_work false true n old e = rw e
late_work false false n old e = rw e

module _ {nrows n : ℕ} {p i w1 w2 w3 : List ℕ} {x : List Float} {old : Scratch} (P : Prepared (pattern nrows n p i) old (scratch w1 w2 w3 x)) where
  pub decide_asked : ValidPattern (pattern n n p i) × (n + 1 ≤ length w1) × (n + 1 ≤ length w2) × (n + 1 ≤ length w3)
  decide_asked = (square_valid P, long1 P, long2 P, long3 P)

  pub at-end : (room : ℕ) (held : Analysis) {r : ℕ} {w1f w2f w3f : List ℕ} {s : Scratch}
      → (r ≡ lowest ((7, tight room (analysed (columns (pattern n n p i)))) ∷ (8, not (same (analysed (columns (pattern n n p i))) held)) ∷ []))
      × Kept 0 (n + 1) w1 w1f × Kept 0 (n + 1) w2 w2f × Kept 0 (n + 1) w3 w3f → s ≡ wiped (n + 1) (scratch w1f w2f w3f x)
      → (r ≡ number (pattern nrows n p i) room held old) × (s ≡ worked r (needed (pattern nrows n p i)) old)
  unfolding columns
  at-end room held g f = (
    g.0 ∙ then (judged6 a old) ((7, tight room (analysed (columns a))) ∷ (8, not (same (analysed (columns a)) held)) ∷ []) (early_6 a old) P.none
        refl ∙ sym (number_is a room held old),
    cleared-up P g.1 g.2 g.3 f ∙ ap (λ (k : ℕ). wiped k old) (sym P.need) ∙
        late_work (tight room (analysed (columns a))) (not (same (analysed (columns a)) held)) (needed a) old g.0,
  )
    where
      a : Pattern
      a = pattern nrows n p i

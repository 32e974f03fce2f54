-- How many entries: a column of U has at most k + 1, L has as many as U, and the pointers are running sums. Assumes nothing.
use mathlib.Core.Path.{◌≡◌, refl, ap, ap₂, ◌∙◌}
use mathlib.Core.Logic.{inl, inr}
use mathlib.Core.Bool.{Bool, true, false}
use mathlib.Core.List.{List, [], ◌∷◌, Memᴰ}
use Prim.Native.Nat.{ℕ, zero, suc, ◌+◌, ◌≤◌, ◌<◌}
use native.Mathlib.Omega.{arith}
use native.Mathlib.Decide.{ℕ_discrete}
use lib.ListN.{get_or, length, take}
use Rattle.lists.specs.Order.{lists, Once, no_more, one_more}
use Rattle.lists.specs.Tables.{from}
use Rattle.cs_tree.specs.Tree.{root}
use Rattle.cs_tree.specs.Pattern.{upper_column, upper, across, lower, starts, entries}
use Rattle.lists.proofs.Members.{listed-or-not, lists-same, lists_other}
use Rattle.cs_tree.proofs.Upper.{listed_filled, no_repeats}
use Rattle.cs_tree.proofs.Laws.{upper-at, fill_upper}
use Rattle.cs_tree.proofs.Lower.{length-upper}

bit : Bool → ℕ
bit true = 1
bit false = 0

-- how many of a, a + 1, .. (m numbers) are in c
hits : List ℕ → ℕ → ℕ → ℕ
hits c a zero = 0
hits c a (suc m) = bit (lists a c) + hits c (suc a) m

hits_nil : (a m : ℕ) → hits [] a m ≡ 0
unfolding hits bit lists
hits_nil a zero = refl
hits_nil a (suc m) = omega (arith, hits_nil (suc a) m)

hits_le : (c : List ℕ) (a m : ℕ) → hits c a m ≤ m
unfolding hits bit
hits_le c a zero = omega arith
hits_le c a (suc m) = let q = hits_le c (suc a) m in let b = bit_le (lists a c) in omega arith
  where
    bit_le : (b : Bool) → bit b ≤ 1
    bit_le true = omega arith
    bit_le false = omega arith

hits_skip : (x : ℕ) (c : List ℕ) (a m : ℕ) → x < a → hits (x ∷ c) a m ≡ hits c a m
unfolding hits
hits_skip x c a zero h = refl
hits_skip x c a (suc m) h = ap₂ (λ b n. bit b + n) (lists_other a x c (omega arith)) (hits_skip x c (suc a) m (omega arith))

hits_one : (x : ℕ) (c : List ℕ) (a m : ℕ) → a ≤ x → x < a + m → ¬ Memᴰ x c → hits (x ∷ c) a m ≡ suc (hits c a m)
unfolding hits bit
hits_one x c a zero l h n = absurd (omega arith)
hits_one x c a (suc m) l h n = elim (ℕ_discrete a x) [
  | yes e ↦ rw (lists-same a x c e, hits_skip x c (suc a) m (omega arith), not_in e) (omega arith)
  | no d ↦ rw (lists_other a x c d) (omega (arith, hits_one x c (suc a) m (omega arith) (omega arith) n))
]
  where
    not_in : a ≡ x → lists a c ≡ false
    not_in e = elim (listed-or-not a c) [ inl q ↦ absurd (n (rw e at q.1)) | inr q ↦ q.0 ]

hits_length : {c : List ℕ} (m : ℕ) → Once c → ((x : ℕ) → Memᴰ x c → x < m) → hits c 0 m ≡ length c
hits_length m no_more h = hits_nil 0 m
hits_length m (one_more {x = x} {xs = xs} n d) h = hits_one x xs 0 m (omega arith) (omega (arith, h x (Memᴰ.head refl))) n ∙
    ap suc (hits_length m d (λ y t. h y (Memᴰ.tail t)))

-- pigeons
pub once-fits : {c : List ℕ} (m : ℕ) → Once c → ((x : ℕ) → Memᴰ x c → x < m) → length c ≤ m
once-fits {c} m d h = omega (arith, hits_length m d h, hits_le c 0 m)

length-across : (j b : ℕ) (c : List ℕ) (cs : List (List ℕ)) → length (across j b (c ∷ cs)) ≡ bit (lists j c) + length (across j (suc b) cs)
unfolding across bit
length-across j b c cs = elim (listed-or-not j c) [ inl q ↦ rw (q.0, across) (omega arith) | inr q ↦ rw (q.0, across) (omega arith) ]

entries-row : (b a m : ℕ) (c : List ℕ) (cs : List (List ℕ)) → entries (from (λ j. across j b (c ∷ cs)) a m)
    ≡ hits c a m + entries (from (λ j. across j (suc b) cs) a m)
unfolding entries from hits
entries-row b a zero c cs = omega arith
entries-row b a (suc m) c cs = omega (arith, length-across a b c cs, entries-row b (suc a) m c cs)

entries_none : (b a m : ℕ) → entries (from (λ j. across j b []) a m) ≡ 0
unfolding entries from across
entries_none b a zero = refl
entries_none b a (suc m) = omega (arith, entries_none b (suc a) m)

pub entries-across : (b m : ℕ) (us : List (List ℕ)) → ((k : ℕ) → Once (get_or us k [])) → ((k x : ℕ) → Memᴰ x (get_or us k []) → x < m) →
    entries (from (λ j. across j b us) 0 m) ≡ entries us
unfolding entries
entries-across b m [] d h = entries_none b 0 m
entries-across b m (c ∷ cs) d h = omega (
  arith,
  entries-row b 0 m c cs,
  hits_length m (d 0) (h 0),
  entries-across (suc b) m cs (λ k. d (suc k)) (λ k. h (suc k)),
)

module _ (cols : List (List ℕ)) (fits : length cols ≤ root) where
  pub upper_column-short : (k : ℕ) → length (upper_column cols k) ≤ suc k
  upper_column-short k = once-fits (suc k) (no_repeats cols fits k) (λ x m. omega (arith, fill_upper cols (listed_filled cols fits x k m)))

  -- L has as many entries as U
  pub entries-lower : entries (lower cols) ≡ entries (upper cols)
  unfolding lower
  entries-lower = entries-across 0 (length (upper cols)) (upper cols) (λ k. rw (upper-at cols fits k) (no_repeats cols fits k))
      (λ k x m. rw (length-upper cols fits) (omega (arith, fill_upper cols (listed_filled cols fits x k (rw (upper-at cols fits k) at m)))))

-- starts
pub length-starts : (a : ℕ) (us : List (List ℕ)) → length (starts a us) ≡ suc (length us)
unfolding starts
length-starts a [] = refl
length-starts a (c ∷ cs) = ap suc (length-starts (a + length c) cs)

pub pointer_at : (a k : ℕ) (us : List (List ℕ)) → k ≤ length us → get_or (starts a us) k 0 ≡ a + entries (take k us)
unfolding starts entries
pointer_at a zero [] l = omega arith
pointer_at a zero (c ∷ cs) l = omega arith
pointer_at a (suc k) [] l = absurd (omega arith)
pointer_at a (suc k) (c ∷ cs) l = omega (arith, pointer_at (a + length c) k cs (omega arith))

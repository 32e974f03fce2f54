-- Pointers as running sums, and L from U: its columns counted and summed up. Assumes nothing.
use mathlib.Core.Path.{◌≡◌, refl, sym, ap, ◌∙◌}
use mathlib.Core.Bool.{Bool, true, false, cond}
use mathlib.Core.List.{List, [], ◌∷◌, ◌++◌, flatten, Memᴰ}
use mathlib.Core.Logic.{⊎_elim}
use Prim.Native.Nat.{ℕ, zero, suc, ◌+◌, ◌≤◌, ◌<◌, ◌^◌, min}
use native.Mathlib.Omega.{arith}
use lib.Dec.{eqb}
use lib.ListN.{length, get_or, take, length-append, get_or-append}
use lib.Seq.{take_all, length-take-le, get_or-take, get_or_at, ext_get_or}
use Rattle.lists.specs.Calls.{onto, cleared}
use Rattle.lists.specs.Keys.{of_key}
use Rattle.lists.specs.Parts.{part, placed}
use Rattle.lists.specs.Sums.{counted, sums}
use Rattle.lists.proofs.Bools.{eq-or-ne}
use Rattle.lists.proofs.Clearing.{length-cleared, cleared-front}
use Rattle.lists.proofs.Laying.{placed-front, part-front, onto-whole}
use Rattle.lists.proofs.Summing.{length-counted, counts_fit, counts_rest}
use Rattle.cs_tree.specs.Pattern.{starts, entries, transposed}
use Rattle.cs_tree.specs.Steps.{lengths, numbers, Whole}
use Rattle.cs_tree.proofs.Count.{length-starts, entries-across}
use Rattle.cs_tree.proofs.Laid.{sums-starts, length-laid, length-numbers, length-lengths, transposed-length, length-transposed}

-- ---- `cumsum` on the fronts of two slices
-- what is summed
abbrev pub fronts : ℕ → List ℕ → List ℕ → List ℕ
fronts m a b = take (min (length (part 0 m a)) (length (part 0 m b))) (part 0 m a)

module _ (us : List (List ℕ)) (m : ℕ) (a b : List ℕ) (e : m ≡ length us + 1) (la : m ≤ length a) (lb : m ≤ length b)
    (h : take m a ≡ lengths us ++ (0 ∷ [])) (f : entries us < 2 ^ 32) where
  long_a : length (part 0 m a) ≡ m
  long_a = rw (part-front m a) (length-take-le m a la)

  long_b : length (part 0 m b) ≡ m
  long_b = rw (part-front m b) (length-take-le m b lb)

  summed_is : sums 0 (fronts m a b) ≡ starts 0 us
  summed_is = ap (sums 0) (take_all (min (length (part 0 m a)) (length (part 0 m b))) (part 0 m a) (omega (arith, long_a, long_b)) ∙ part-front m a
      ∙ h) ∙ sums-starts us f

  starts_long : length (starts 0 us) ≡ m
  starts_long = omega (arith, length-starts 0 us)

  fronted : (d : List ℕ) → length (part 0 m d) ≡ m → placed 0 m d (onto (part 0 m d) (sums 0 (fronts m a b))) ≡ onto d (starts 0 us)
  fronted d l = ap (λ (t : List ℕ). placed 0 m d (onto (part 0 m d) t)) summed_is ∙
      ap (placed 0 m d) (onto-whole (part 0 m d) (starts 0 us) (starts_long ∙ sym l)) ∙ placed-front d (starts 0 us) m starts_long

  pub sums_a : {a1 : List ℕ} → a1 ≡ onto (part 0 m a) (sums 0 (fronts m a b)) → placed 0 m a a1 ≡ onto a (starts 0 us)
  sums_a g = ap (placed 0 m a) g ∙ fronted a long_a

  pub sums_b : {b1 : List ℕ} → b1 ≡ onto (part 0 m b) (sums 0 (fronts m a b)) → placed 0 m b b1 ≡ onto b (starts 0 us)
  sums_b g = ap (placed 0 m b) g ∙ fronted b long_b

-- ---- L
key-lengths : {A B : Type 0} (j : ℕ) (ks : List ℕ) (xs : List A) (ys : List B) → length xs ≡ length ys → length (of_key j ks xs)
    ≡ length (of_key j ks ys)
unfolding of_key
key-lengths j [] xs ys e = refl
key-lengths j (k ∷ ks) [] [] e = refl
key-lengths j (k ∷ ks) [] (y ∷ ys) e = absurd (omega arith)
key-lengths j (k ∷ ks) (x ∷ xs) [] e = absurd (omega arith)
key-lengths {A} {B} j (k ∷ ks) (x ∷ xs) (y ∷ ys) e = go (eqb k j) (key-lengths j ks xs ys (omega arith))
  where
    go : (b : Bool) → length (of_key j ks xs) ≡ length (of_key j ks ys) → length (cond b (x ∷ of_key j ks xs) (of_key j ks xs))
        ≡ length (cond b (y ∷ of_key j ks ys) (of_key j ks ys))
    go true h = ap suc h
    go false h = h

-- what holds of every row of every column holds at each place
pub laid-below : (us : List (List ℕ)) (n : ℕ) → ((k x : ℕ) → Memᴰ x (get_or us k []) → x < n) → (q : ℕ) → q < length (flatten us) →
    get_or (flatten us) q 0 < n
unfolding flatten
laid-below [] n h q l = absurd (omega arith)
laid-below (c ∷ cs) n h q l = go c (h 0) (laid-below cs n (λ k x m. h (suc k) x m)) q l
  where
    go : (d : List ℕ) → ((x : ℕ) → Memᴰ x d → x < n) → ((q : ℕ) → q < length (flatten cs) → get_or (flatten cs) q 0 < n) → (q : ℕ) →
        q < length (d ++ flatten cs) → get_or (d ++ flatten cs) q 0 < n
    go [] g r q l = r q l
    go (x ∷ d) g r zero l = g x (Memᴰ.head refl)
    go (x ∷ d) g r (suc q) l = go d (λ y m. g y (Memᴰ.tail m)) r q (omega arith)

module _ {n t : ℕ} {up ui : List ℕ} (w : Whole n t up ui) where
  abbrev us : List (List ℕ)
  us = w.us

  abbrev ks : List ℕ
  ks = flatten us

  abbrev xs : List ℕ
  xs = numbers 0 us

  abbrev ls : List (List ℕ)
  ls = transposed us

  keys_long : length ks ≡ t
  keys_long = length-laid us ∙ sym w.size

  pub items_long : length xs ≡ length ks
  items_long = length-numbers 0 us ∙ sym (length-laid us)

  pub named : (q : ℕ) → q < length ks → get_or ks q 0 < n
  named = laid-below us n w.below

  -- the rows lent as a part
  pub rows_are : part 0 t ui ≡ ks
  rows_are =
      rw (part-front t ui)
      (ext_get_or 0 (take t ui) ks (length-take-le t ui w.room ∙ sym keys_long)
      (λ q l. let m : q < t = omega (arith, length-take-le t ui w.room) in get_or-take t ui q 0 m ∙ w.laid q (omega (arith, w.size))))

  pub entries-lower : entries ls ≡ t
  unfolding transposed
  entries-lower = entries-across 0 (length us) us w.once (λ k x m. rw w.count (w.below k x m)) ∙ sym w.size

  pub lower_long : length ls ≡ n
  lower_long = length-transposed us w.once ∙ w.count

  module _ (m : ℕ) (next₀ : List ℕ) (e : m ≡ n + 1) (h : m ≤ length next₀) where
    abbrev zeros : List ℕ
    zeros = cleared 0 m next₀

    abbrev next1 : List ℕ
    next1 = counted (part 0 t ui) zeros

    next1_is : next1 ≡ counted ks zeros
    next1_is = ap (λ (r : List ℕ). counted r zeros) rows_are

    zeros_long : length zeros ≡ length next₀
    zeros_long = length-cleared 0 m next₀

    pub next1_long : length next1 ≡ length next₀
    next1_long = length-counted (part 0 t ui) zeros ∙ zeros_long

    count_at : (j : ℕ) → j < n → get_or next1 j 0 ≡ get_or (lengths ls) j 0
    count_at j l =
        let z : get_or zeros j 0 ≡ 0 = cleared-front 0 m next₀ j (omega arith) in
        let f = counts_fit ks zeros j (omega (arith, zeros_long)) (omega (arith, z, keys_long, w.few)) in
        ap (λ (r : List ℕ). get_or r j 0) next1_is ∙ f ∙ (let y : get_or zeros j 0 + length (of_key j ks ks) ≡ length (of_key j ks ks) =
        omega (arith, z) in y) ∙ key-lengths j ks ks xs (sym items_long)
        ∙ sym (transposed-length us w.once j (rw w.count l))

    count-last : get_or next1 n 0 ≡ 0
    count-last = ap (λ (r : List ℕ). get_or r n 0) next1_is ∙ counts_rest ks zeros n n named (omega arith) ∙ cleared-front 0 m next₀ n (omega arith)

    lengths_long : length (lengths ls) ≡ n
    lengths_long = length-lengths ls ∙ lower_long

    pub counted_are : take m next1 ≡ lengths ls ++ (0 ∷ [])
    counted_are =
        ext_get_or 0 (take m next1) (lengths ls ++ (0 ∷ []))
        (length-take-le m next1 (omega (arith, next1_long)) ∙
        (let y : m ≡ length (lengths ls ++ (0 ∷ [])) = omega (arith, length-append (lengths ls) (0 ∷ []), lengths_long) in y))
        (λ j l.
        let k : j < m = omega (arith, length-take-le m next1 (omega (arith, next1_long))) in
        get_or-take m next1 j 0 k
        ∙ ⊎_elim
        (λ (y : j ≡ n). rw y (count-last ∙ sym (get_or_at (lengths ls) 0 [] 0 n lengths_long)))
        (λ (y : j ≡ n → ⊥). count_at j (omega arith) ∙ sym (get_or-append (lengths ls) (0 ∷ []) 0 j (omega (arith, lengths_long))))
        (eq-or-ne j n))

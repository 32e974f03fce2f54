-- Lists that hold each number once: their parts, and how many numbers they are. Assumes nothing.
use Rattle.std.proofs.Common.{◌≡◌, ℕ, zero, suc, ◌+◌, ◌<◌, Bool, true, false, cond, ◌&&◌, ◌||◌, eqb, ◌⊎◌, List, [], ◌∷◌, ◌++◌, length, get_or, take}
use Rattle.std.proofs.Common.{drop, sym, refl, ap, ◌∙◌, ⊎_elim, eq-or-lt_of_le, arith, length-append, take-append-drop, length-take-le, get_or-take}
use mathlib.Core.List.Memᴰ
use mathlib.Core.List.{Memᴰ}
use lib.ListN.{get_or-append}
use lib.Seq.{get_or_at}
use Rattle.lists.specs.Choices.{chosen, keep}
use Rattle.lists.specs.Order.{lists, Once, no_more, one_more}
use Rattle.lists.proofs.Bools.{eq-or-ne, not-both, or-none, and_none, and-false}
use Rattle.lists.proofs.Chosen.{chosen_alike}
use Rattle.lists.proofs.Members.{lists-same, lists_other, lists-append, listed-or-not}
use Rattle.lists.proofs.Skipping.{lists_nowhere}
use Rattle.lists.proofs.Positions.{once-apart}

-- ---- one more behind
pub lists_snoc : (r : ℕ) (l : List ℕ) (x : ℕ) → lists r (l ++ (x ∷ [])) ≡ (lists r l || eqb r x)
unfolding lists
lists_snoc r l x = lists-append r l (x ∷ []) ∙ ap (λ (b : Bool). lists r l || b) (or-none (eqb r x))

pub once_snoc : {l : List ℕ} (x : ℕ) → Once l → lists x l ≡ false → Once (l ++ (x ∷ []))
once_snoc x no_more h = one_more {x = x} Memᴰ.not-nil no_more
once_snoc x (one_more {x = y} {xs = l} n o) h =
    one_more {x = y}
    (λ m. ⊎_elim n (λ s. not-both (lists x (y ∷ l)) (lists-same x y l (sym (Memᴰ.eq_of_singleton s))) h) (Memᴰ.append_cases l m))
    (once_snoc x o (tail_free (eq-or-ne x y)))
  where
    tail_free : (x ≡ y) ⊎ (x ≡ y → ⊥) → lists x l ≡ false
    tail_free t = ⊎_elim (λ (e : x ≡ y). absurd (not-both (lists x (y ∷ l)) (lists-same x y l e) h)) (λ d. sym (lists_other x y l d) ∙ h) t

pub below_snoc : (l : List ℕ) (x n : ℕ) → ((k : ℕ) → k < length l → get_or l k 0 < n) → x < n → (k : ℕ) → k < length (l ++ (x ∷ [])) →
    get_or (l ++ (x ∷ [])) k 0 < n
below_snoc l x n f h k g =
    ⊎_elim
    (λ (e : k ≡ length l). rw (e, get_or_at l x [] 0 (length l) refl) h)
    (λ (m : k < length l). rw (get_or-append l (x ∷ []) 0 k m) (f k m))
    (eq-or-lt_of_le (omega (arith, length-append l (x ∷ []))))

-- ---- its parts
once-left : (l m : List ℕ) → Once (l ++ m) → Once l
once-left [] m o = no_more
once-left (x ∷ l) m (one_more n o) = one_more {x = x} (λ s. n (Memᴰ.append_left m s)) (once-left l m o)

once-right : (l m : List ℕ) → Once (l ++ m) → Once m
once-right [] m o = o
once-right (x ∷ l) m (one_more n o) = once-right l m o

pub once-take : (k : ℕ) {l : List ℕ} → Once l → Once (take k l)
once-take k {l} o = once-left (take k l) (drop k l) (rw (take-append-drop k l) o)

pub once-drop : (k : ℕ) {l : List ℕ} → Once l → Once (drop k l)
once-drop k {l} o = once-right (take k l) (drop k l) (rw (take-append-drop k l) o)

-- ---- place by place
pub once_new : {l : List ℕ} → Once l → (k : ℕ) → k < length l → lists (get_or l k 0) (take k l) ≡ false
once_new {l} o k h =
    lists_nowhere (get_or l k 0) (take k l)
    (λ i g e. let m = length-take-le k l (omega arith) in once-apart o i k (omega (arith, m)) h (sym (get_or-take k l i 0 (omega (arith, m))) ∙ e))

-- ---- how many
card_step : (n : ℕ) (f g : ℕ → Bool) (y : ℕ) → y < n → f y ≡ true → g y ≡ false → ((r : ℕ) → (r ≡ y → ⊥) → f r ≡ g r) → length (chosen n f)
    ≡ length (chosen n g) + 1
unfolding chosen
card_step zero f g y h p q s = absurd (omega arith)
card_step (suc n) f g y h p q s = ⊎_elim here (λ (l : y < n). further l (card_step n f g y l p q s)) (eq-or-lt_of_le (omega arith))
  where
    one : (b : Bool) → b ≡ true → length (cond b (n ∷ []) []) ≡ 1
    one true e = refl
    one false e = absurd (not-both false e refl)

    no_one : (b : Bool) → b ≡ false → length (cond b (n ∷ []) []) ≡ 0
    no_one true e = absurd (not-both true refl e)
    no_one false e = refl

    here : y ≡ n → length (chosen n f ++ cond (f n) (n ∷ []) []) ≡ length (chosen n g ++ cond (g n) (n ∷ []) []) + 1
    here e =
        let a : chosen n f ≡ chosen n g = chosen_alike n f g (λ r l. s r (λ z. omega arith)) in
        omega (
          arith,
          length-append (chosen n f) (cond (f n) (n ∷ []) []),
          length-append (chosen n g) (cond (g n) (n ∷ []) []),
          ap length a,
          one (f n) (rw e at p),
          no_one (g n) (rw e at q),
        )

    further : y < n → length (chosen n f) ≡ length (chosen n g) + 1 → length (chosen n f ++ cond (f n) (n ∷ []) [])
        ≡ length (chosen n g ++ cond (g n) (n ∷ []) []) + 1
    further l i =
        let a : length (cond (f n) (n ∷ []) []) ≡ length (cond (g n) (n ∷ []) []) = rw (s n (λ z. omega arith)) in
        omega (arith, length-append (chosen n f) (cond (f n) (n ∷ []) []), length-append (chosen n g) (cond (g n) (n ∷ []) []), a, i)

chosen_nowhere : (n : ℕ) (f : ℕ → Bool) → ((r : ℕ) → f r ≡ false) → chosen n f ≡ []
unfolding chosen
chosen_nowhere zero f h = refl
chosen_nowhere (suc n) f h = rw (h n, chosen_nowhere n f h)

lists_free : (y : ℕ) (l : List ℕ) → ¬ Memᴰ y l → lists y l ≡ false
lists_free y l o = ⊎_elim (λ t. absurd (o t.1)) (λ t. t.0) (listed-or-not y l)

keep_all : (l : List ℕ) → keep (λ r. true) l ≡ l
unfolding keep
keep_all [] = refl
keep_all (x ∷ l) = ap (λ (t : List ℕ). x ∷ t) (keep_all l)

-- those of a list at which a test holds
pub keep_card : (n : ℕ) (f : ℕ → Bool) {l : List ℕ} → Once l → ((k : ℕ) → k < length l → get_or l k 0 < n) → length (keep f l)
    ≡ length (chosen n (λ r. lists r l && f r))
unfolding keep
keep_card n f no_more h = sym (ap length (nothing n))
  where
    nothing : (n : ℕ) → chosen n (λ r. lists r [] && f r) ≡ []
    nothing n = chosen_nowhere n (λ r. lists r [] && f r) (λ r. rw (lists_nowhere r [] (λ k g. absurd (omega arith))))
keep_card n f (one_more {x = y} {xs = l} o r) h = go (f y) refl (keep_card n f r (λ k g. h (suc k) (omega arith)))
  where
    free : lists y l ≡ false
    free = lists_free y l o

    away : (q : ℕ) → (q ≡ y → ⊥) → (lists q (y ∷ l) && f q) ≡ (lists q l && f q)
    away q d = rw (lists_other q y l d)

    go : (b : Bool) → f y ≡ b → length (keep f l) ≡ length (chosen n (λ q. lists q l && f q)) → length (cond b (y ∷ keep f l) (keep f l))
        ≡ length (chosen n (λ q. lists q (y ∷ l) && f q))
    go true e i =
        omega (
          arith,
          i,
          card_step n (λ q. lists q (y ∷ l) && f q) (λ q. lists q l && f q) y (h 0 (omega arith)) (rw (lists-same y y l refl) e)
              (rw free) away,
        )
    go false e i =
        i ∙ ap length (chosen_alike n (λ q. lists q l && f q) (λ q. lists q (y ∷ l) && f q)
        (λ q g. ⊎_elim (λ (z : q ≡ y). rw (z, e, and-false (lists y l), and-false (lists y (y ∷ l)))) (λ z. sym (away q z)) (eq-or-ne q y)))

-- and all of them
pub card_once : (n : ℕ) {l : List ℕ} → Once l → ((k : ℕ) → k < length l → get_or l k 0 < n) → length (chosen n (λ r. lists r l)) ≡ length l
card_once n {l} o h =
    sym
    (ap length (sym (keep_all l))
    ∙ keep_card n (λ r. true) o h
    ∙ ap length (chosen_alike n (λ r. lists r l && true) (λ r. lists r l) (λ r g. and_none (lists r l))))

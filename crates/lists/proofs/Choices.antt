-- The numbers at which a test holds: walks that look for the first of them, or for the last. Assumes nothing.
use Rattle.std.proofs.Common.{◌≡◌, ℕ, zero, suc, ◌+◌, ◌-◌, ◌<◌, ◌≤◌, Bool, true, false, cond, List, [], ◌∷◌, ◌++◌, sym, refl, ap, ◌∙◌, ⊎_elim}
use Rattle.std.proofs.Common.{append-nil, eq-or-lt_of_le, add-one, arith}
use Rattle.lists.specs.Choices.{chosen, some, first_or, last_or, Found}

-- ---- one number more
pub chosen_more : (n : ℕ) (f : ℕ → Bool) → f n ≡ true → chosen (n + 1) f ≡ chosen n f ++ (n ∷ [])
unfolding chosen
chosen_more n f h = rw (add-one, h)

pub chosen-same : (n : ℕ) (f : ℕ → Bool) → f n ≡ false → chosen (n + 1) f ≡ chosen n f
unfolding chosen
chosen-same n f h = rw (add-one, h) (append-nil (chosen n f))

pub chosen_none : (f : ℕ → Bool) → chosen 0 f ≡ []
unfolding chosen
chosen_none f = refl

-- a list of which j is the first
record Leads (j : ℕ) (l : List ℕ) : Type 0 where
  rest : List ℕ
  is : l ≡ j ∷ rest

leads : (n : ℕ) (f : ℕ → Bool) (j : ℕ) → j < n → chosen j f ≡ [] → f j ≡ true → Leads j (chosen n f)
unfolding chosen
leads zero f j h e t = absurd (omega arith)
leads (suc n) f j h e t =
    ⊎_elim
    (λ (q : j ≡ n). let e' = rw q at e in let t' = rw q at t in record { rest = []; is = rw (e', t', q) })
    (λ (m : j < n). let r = leads n f j m e t in let more = cond (f n) (n ∷ []) [] in
    record { rest = r.rest ++ more; is = ap (λ (l : List ℕ). l ++ more) r.is })
    (eq-or-lt_of_le (omega arith))

last-is : (l : List ℕ) (x d : ℕ) → last_or d (l ++ (x ∷ [])) ≡ x
last-is [] x d = refl
last-is (y ∷ l) x d = last-is l x y

some-last : (l : List ℕ) (x : ℕ) → some (l ++ (x ∷ [])) ≡ true
some-last [] x = refl
some-last (y ∷ l) x = refl

-- ---- rising, for the first
pub record Upward (n : ℕ) (f : ℕ → Bool) (j : ℕ) : Type 0 where
  pub within : j ≤ n
  pub empty : chosen j f ≡ []

pub upward_start : (n : ℕ) (f : ℕ → Bool) → Upward n f 0
upward_start n f = record { within = omega arith; empty = chosen_none f }

pub upward_turn : {n : ℕ} {f : ℕ → Bool} {j : ℕ} → Upward n f j → j < n → f j ≡ false → Upward n f (j + 1)
upward_turn {n} {f} {j} v h e = record { within = omega arith; empty = chosen-same j f e ∙ v.empty }

pub upward_found : {n : ℕ} {f : ℕ → Bool} {j : ℕ} → Upward n f j → j < n → f j ≡ true → Found n (chosen n f) (first_or 0 (chosen n f)) j
upward_found {n} {f} {j} v h e =
    let r = leads n f j h v.empty e in
    record { found = λ m. rw r.is (refl, refl); none = λ m. absurd (omega arith) }

pub upward_end : {n : ℕ} {f : ℕ → Bool} {j : ℕ} → Upward n f j → n ≤ j → Found n (chosen n f) (first_or 0 (chosen n f)) j
upward_end {n} {f} {j} v h =
    let q : j ≡ n = omega (arith, v.within) in
    let e = v.empty in
    record { found = λ m. absurd (omega arith); none = λ m. rw (rw q at e) }

-- ---- falling, for the last
pub record Downward (n : ℕ) (f : ℕ → Bool) (j : ℕ) : Type 0 where
  pub within : j ≤ n
  pub rest : chosen n f ≡ chosen j f

pub downward_start : (n : ℕ) (f : ℕ → Bool) → Downward n f n
downward_start n f = record { within = omega arith; rest = refl }

-- the number before k
pub k_below : {n : ℕ} {f : ℕ → Bool} {k : ℕ} → Downward n f k → 0 < k → k - 1 < n
k_below v h = omega (arith, v.within)

before : {n : ℕ} {f : ℕ → Bool} {k : ℕ} → Downward n f k → 0 < k → chosen n f ≡ chosen (k - 1 + 1) f
before {k = k} v h = let e : k - 1 + 1 ≡ k = omega arith in rw e v.rest

pub downward_turn : {n : ℕ} {f : ℕ → Bool} {k : ℕ} → Downward n f k → 0 < k → f (k - 1) ≡ false → Downward n f (k - 1)
downward_turn {n} {f} {k} v h e = record { within = omega (arith, v.within); rest = before v h ∙ chosen-same (k - 1) f e }

pub downward_found : {n : ℕ} {f : ℕ → Bool} {k : ℕ} → Downward n f k → 0 < k → f (k - 1) ≡ true →
    Found n (chosen n f) (last_or 0 (chosen n f)) (k - 1)
downward_found {n} {f} {k} v h e =
    let r = before v h ∙ chosen_more (k - 1) f e in
    record {
      found = λ m. rw r (some-last (chosen (k - 1) f) (k - 1), sym (last-is (chosen (k - 1) f) (k - 1) 0));
      none = λ m. absurd (omega (arith, v.within));
    }

pub downward_end : {n : ℕ} {f : ℕ → Bool} {k : ℕ} → Downward n f k → k ≡ 0 → Found n (chosen n f) (last_or 0 (chosen n f)) n
downward_end {n} {f} {k} v h = let r = v.rest in record { found = λ m. absurd (omega arith); none = λ m. rw ((rw h at r) ∙ chosen_none f) }

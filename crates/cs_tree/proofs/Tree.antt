-- The invariant of the tree's making (Liu), through the climbs. Assumes nothing.
use mathlib.Core.Path.{◌≡◌, refl, sym, ◌∙◌}
use mathlib.Core.Logic.{◌⊎◌, inl, inr, ◌≢◌}
use mathlib.Core.List.Memᴰ
use mathlib.Core.List.{List, [], ◌∷◌, Memᴰ}
use Prim.Native.Nat.{ℕ, zero, suc, ◌+◌, ◌≤◌, ◌<◌}
use native.Mathlib.Omega.{arith}
use native.Mathlib.Decide.{dec_lt, ℕ_discrete}
use lib.ListN.{get_or, set, length, length-set, replicate, length-replicate, get_or-replicate, get_or-eq_default}
use lib.Seq.{get_or-set_other}
use Rattle.lists.specs.Folds.{along}
use Rattle.cs_tree.specs.Tree.{root, Forest, climb, climbs, tree_to}
use Rattle.cs_tree.proofs.Reach.{Reach, here, up, reach_trans, reach_mono, reach_snoc}
use Rattle.cs_tree.proofs.Steps.{climb_stop, climb-root, climb_on, get_d_set}

abbrev pub P : Forest → ℕ → ℕ
P s i = get_or s.parent i root

abbrev pub A : Forest → ℕ → ℕ
A s i = get_or s.anc i root

-- column c stores a row below c from which i is reached
pub record Made (cols : List (List ℕ)) (par : List ℕ) (i c : ℕ) : Type 0 where
  pub from : ℕ
  pub low : from < c
  pub mem : Memᴰ from (get_or cols c [])
  pub way : Reach par from i

-- all links made so far are below k; J holds of each index and its ancestor
pub record Sound (cols : List (List ℕ)) (k : ℕ) (s : Forest) (J : ℕ → ℕ → Type 0) : Type 0 where
  pub len_p : length s.parent ≡ length cols
  pub len_a : length s.anc ≡ length cols
  pub rises : (i : ℕ) → P s i ≢ root → (i < P s i) × (P s i < k)
  pub linked : (i : ℕ) → P s i ≢ root → A s i ≢ root
  pub made : (i : ℕ) → P s i ≢ root → Made cols s.parent i (P s i)
  pub jump : (i : ℕ) → A s i ≢ root → (i < A s i) × (A s i < k) × J i (A s i)

pub relax : (cols : List (List ℕ)) (k : ℕ) (s : Forest) (J J' : ℕ → ℕ → Type 0) → ((i a : ℕ) → J i a → J' i a) → Sound cols k s J → Sound cols k s J'
relax cols k s J J' f h = record {
  len_p = h.len_p;
  len_a = h.len_a;
  rises = h.rises;
  linked = h.linked;
  made = h.made;
  jump = λ i n. let q = h.jump i n in (q.0, q.1, f i (A s i) q.2);
}

pub later : (cols : List (List ℕ)) (k k' : ℕ) (s : Forest) (J : ℕ → ℕ → Type 0) → k ≤ k' → Sound cols k s J → Sound cols k' s J
later cols k k' s J l h = record {
  len_p = h.len_p;
  len_a = h.len_a;
  rises = λ i n. let q = h.rises i n in omega arith;
  linked = h.linked;
  made = h.made;
  jump = λ i n. let q = h.jump i n in (q.0, omega arith, q.2);
}

-- within a climb that stands at i: an index that was set to k in this climb reaches i
unfoldable pub Late : ℕ → ℕ → List ℕ → ℕ → ℕ → Type 0
Late k i par j a = Reach par j a ⊎ ((a ≡ k) × (j < i) × Reach par j i)

pub record Mid (cols : List (List ℕ)) (k i₀ i : ℕ) (s : Forest) : Type 0 where
  pub sound : Sound cols (suc k) s (Late k i s.parent)
  pub start : Reach s.parent i₀ i
  pub top : i ≤ k

pub record Climbed (cols : List (List ℕ)) (k i₀ : ℕ) (s s' : Forest) : Type 0 where
  pub sound : Sound cols (suc k) s' (Reach s'.parent)
  pub arrives : Reach s'.parent i₀ k
  pub keeps : (a b : ℕ) → Reach s.parent a b → Reach s'.parent a b

module _ (cols : List (List ℕ)) (k : ℕ) (kn : k < length cols) (kr : k < root) (i₀ : ℕ) (low : i₀ < k) (mem : Memᴰ i₀ (get_or cols k [])) where
  -- the climb has arrived at k
  finish : (i : ℕ) (s : Forest) → k ≤ i → Mid cols k i₀ i s → Climbed cols k i₀ s s
  unfolding Late
  finish i s h m =
      let e : i ≡ k = let t = m.top in omega arith in
      record {
        sound = relax cols (suc k) s (Late k i s.parent) (Reach s.parent) (λ j a. elim [
          | inl r ↦ r
          | inr q ↦ let ia : i ≡ a = e ∙ sym q.0 in
              rw ia at q.2
        ]) m.sound;
        arrives = rw e at m.start;
        keeps = λ a b r. r;
      }

  -- the climb ends at an index without ancestor
  module _ (i : ℕ) (s : Forest) (m : Mid cols k i₀ i s) (below : i < k) (none : A s i ≡ root) where
    rooted : P s i ≡ root
    rooted = elim (ℕ_discrete (P s i) root) [ yes e ↦ e | no n ↦ absurd (m.sound.linked i n none) ]

    i<p : i < length s.parent
    i<p = let q = m.sound.len_p in omega arith

    i<a : i < length s.anc
    i<a = let q = m.sound.len_a in omega arith

    grown : {a b : ℕ} → Reach s.parent a b → Reach (set s.parent i k) a b
    grown = reach_mono s.parent (set s.parent i k)
        (λ j h. elim (get_d_set s.parent i j k root i<p) [ inl q ↦ absurd (let h' = rw q.0 at h in omega (arith, rooted)) | inr q ↦ q.1 ])

    link : get_or (set s.parent i k) i root ≡ k
    link = elim (get_d_set s.parent i i k root i<p) [ inl q ↦ q.1 | inr q ↦ absurd (q.0 refl) ]

    pub linked_root : Climbed cols k i₀ s (record { parent = set s.parent i k; anc = set s.anc i k })
    unfolding Late
    linked_root = record {
      sound = record {
        len_p = length-set s.parent i k ∙ m.sound.len_p;
        len_a = length-set s.anc i k ∙ m.sound.len_a;
        rises = λ j n. elim (get_d_set s.parent i j k root i<p) [
          | inl q ↦ omega arith
          | inr q ↦ let r = m.sound.rises j (rw q.1 at n) in omega arith
        ];
        linked = λ j n. elim (get_d_set s.anc i j k root i<a) [
          | inl q ↦ omega arith
          | inr q ↦ λ e. m.sound.linked j (rw (get_or-set_other s.parent i j k root q.0) at n) (sym q.1 ∙ e)
        ];
        made = λ j n. elim (get_d_set s.parent i j k root i<p) [
          | inl q ↦ rw q.1 (record { from = i₀; low = low; mem = mem; way = rw q.0 (grown m.start) })
          | inr q ↦ rw q.1 (let r = m.sound.made j (rw q.1 at n) in record { from = r.from; low = r.low; mem = r.mem; way = grown r.way })
        ];
        jump = λ j n. elim (get_d_set s.anc i j k root i<a) [
          | inl q ↦ rw q.1 (omega arith, omega arith, rw q.0 (up k link below kr (here refl)))
          | inr q ↦ rw q.1 (let r = m.sound.jump j (rw q.1 at n) in
              (r.0, r.1, elim r.2 [ inl w ↦ grown w | inr w ↦ rw w.0 (reach_snoc k (grown w.2) link below kr) ]))
        ];
      };
      arrives = reach_snoc k (grown m.start) link below kr;
      keeps = λ a b r. grown r;
    }

  -- the climb goes on
  module _ (i : ℕ) (s : Forest) (m : Mid cols k i₀ i s) (below : i < k) (some : A s i ≢ root) where
    pub goes_on : Mid cols k i₀ (A s i) (record { parent = s.parent; anc = set s.anc i k })
    unfolding Late
    goes_on =
        let q = m.sound.jump i some in
        let ia : Reach s.parent i (A s i) = elim q.2 [ inl w ↦ w | inr w ↦ absurd (omega (arith, w.1)) ] in
        record {
          sound = record {
            len_p = m.sound.len_p;
            len_a = length-set s.anc i k ∙ m.sound.len_a;
            rises = m.sound.rises;
            linked = λ j n. elim (get_d_set s.anc i j k root (rw m.sound.len_a (omega arith))) [
              | inl q ↦ omega arith
              | inr q ↦ λ e. m.sound.linked j n (sym q.1 ∙ e)
            ];
            made = m.sound.made;
            jump = λ j n. elim (get_d_set s.anc i j k root (rw m.sound.len_a (omega arith))) [
              | inl p ↦ rw p.1 (omega arith, omega arith, inr (refl, omega (arith, q.0), rw p.0 ia))
              | inr p ↦ rw p.1 (let r = m.sound.jump j (rw p.1 at n) in
                  (r.0, r.1, elim r.2 [ inl w ↦ inl w | inr w ↦ inr (w.0, omega (arith, w.1, q.0), reach_trans w.2 ia) ]))
            ];
          };
          start = reach_trans m.start ia;
          top = omega (arith, q.1);
        }

  climb-mid : (f i : ℕ) (s : Forest) → k ≤ i + f → Mid cols k i₀ i s → Climbed cols k i₀ s (climb f k i s)
  climb-mid zero i s fuel m = rw (climb_stop zero k i s (omega arith)) (finish i s (omega arith) m)
  climb-mid (suc f) i s fuel m = go (dec_lt i k) (ℕ_discrete (A s i) root)
      (λ l n. climb-mid f (A s i) (record { parent = s.parent; anc = set s.anc i k }) (omega (arith, m.sound.jump i n)) (goes_on i s m l n))
    where
      go : Dec (i < k) → Dec (A s i ≡ root)
          → ((l : i < k) (n : A s i ≢ root) → Climbed cols k i₀ (record { parent = s.parent; anc = set s.anc i k })
          (climb f k (A s i) (record { parent = s.parent; anc = set s.anc i k })))
          → Climbed cols k i₀ s (climb (suc f) k i s)
      go (no g) d next = rw (climb_stop (suc f) k i s (omega arith)) (finish i s (omega arith) m)
      go (yes l) (yes e) next = rw (climb-root f k i s l e) (linked_root i s m l e)
      go (yes l) (no n) next = let r = next l n in rw (climb_on f k i s l n) (record { sound = r.sound; arrives = r.arrives; keeps = r.keeps })

-- ---- one column

module _ (cols : List (List ℕ)) (k : ℕ) (kn : k < length cols) (kr : k < root) where
  pub climb-ok : (i : ℕ) (s : Forest) → i < k → Memᴰ i (get_or cols k []) → Sound cols (suc k) s (Reach s.parent) → Climbed cols k i s (climb k k i s)
  unfolding Late
  climb-ok i s low mem h = climb-mid cols k kn kr i low mem k i s (omega arith) (record {
    sound = relax cols (suc k) s (Reach s.parent) (Late k i s.parent) (λ j a r. inl r) h;
    start = here refl;
    top = omega arith;
  })

  pub record Column (rows : List ℕ) (s s' : Forest) : Type 0 where
    pub sound : Sound cols (suc k) s' (Reach s'.parent)
    pub arrive : (i : ℕ) → i < k → Memᴰ i rows → Reach s'.parent i k
    pub keeps : (a b : ℕ) → Reach s.parent a b → Reach s'.parent a b

  pub climbs-ok : (rows : List ℕ) → ((i : ℕ) → Memᴰ i rows → Memᴰ i (get_or cols k [])) → (s : Forest) → Sound cols (suc k) s (Reach s.parent) →
      Column rows s (climbs k rows s)
  unfolding climbs along
  climbs-ok [] sub s h = record { sound = h; arrive = λ i l m. absurd (Memᴰ.not-nil m); keeps = λ a b r. r }
  climbs-ok (i ∷ is) sub s h = go (dec_lt i k) (λ s' h'. climbs-ok is (λ j m. sub j (Memᴰ.tail m)) s' h')
    where
      go : Dec (i < k) → ((s' : Forest) → Sound cols (suc k) s' (Reach s'.parent) → Column is s' (climbs k is s')) →
          Column (i ∷ is) s (climbs k is (climb k k i s))
      go (yes l) rest =
          let c = climb-ok i s l (sub i (Memᴰ.head refl)) h in
          let r = rest (climb k k i s) c.sound in
          record {
            sound = r.sound;
            arrive = λ j lj mj. elim (Memᴰ.cases_cons mj) [ inl e ↦ rw e (r.keeps i k c.arrives) | inr t ↦ r.arrive j lj t ];
            keeps = λ a b w. r.keeps a b (c.keeps a b w);
          }
      go (no n) rest = rw (climb_stop k k i s (omega arith)) (let r = rest s h in record {
        sound = r.sound;
        arrive = λ j lj mj. elim (Memᴰ.cases_cons mj) [ inl e ↦ absurd (omega arith) | inr t ↦ r.arrive j lj t ];
        keeps = r.keeps;
      })

-- ---- all columns below k

pub record Done (cols : List (List ℕ)) (k : ℕ) (s : Forest) : Type 0 where
  pub sound : Sound cols k s (Reach s.parent)
  pub closed : (c i : ℕ) → c < k → i < c → Memᴰ i (get_or cols c []) → Reach s.parent i c

get_or_roots : (n i : ℕ) → get_or (replicate n root) i root ≡ root
get_or_roots n i = elim (dec_lt i n) [
  | yes l ↦ get_or-replicate n i root root l
  | no g ↦
      get_or-eq_default (replicate n root) root (rw length-replicate (omega arith))
]

pub tree-done : (cols : List (List ℕ)) (k : ℕ) → k ≤ length cols → k ≤ root → Done cols k (tree_to cols k)
unfolding tree_to
tree-done cols zero kn kr = record {
  sound = record {
    len_p = length-replicate (length cols) root;
    len_a = length-replicate (length cols) root;
    rises = λ i n. absurd (n (get_or_roots (length cols) i));
    linked = λ i n. n;
    made = λ i n. absurd (n (get_or_roots (length cols) i));
    jump = λ i n. absurd (n (get_or_roots (length cols) i));
  };
  closed = λ c i l. absurd (omega arith);
}
tree-done cols (suc k) kn kr =
    let d = tree-done cols k (omega arith) (omega arith) in
    let s : Forest = tree_to cols k in
    let c = climbs-ok cols k kn kr (get_or cols k []) (λ i m. m) s (later cols k (suc k) s (Reach s.parent) (omega arith) d.sound) in
    record {
      sound = c.sound;
      closed = λ c' i lc li m. elim (ℕ_discrete c' k) [
        | yes e ↦ rw e (c.arrive i (omega arith) (rw e at m))
        | no n ↦ c.keeps i c' (d.closed c' i (omega arith) li m)
      ];
    }

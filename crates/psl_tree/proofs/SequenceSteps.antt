-- Acceptance from a state under any numbering of states, and the laws of one step.
use Rattle.std.proofs.Common.{◌≡◌, ◌⊎◌, ◌↔◌, inl, inr, ℕ, ◌≤◌, ◌<◌, false, List, [], ◌∷◌, ◌++◌, IsTrue, refl, sym, subst, arith}
use Rattle.psl_tree.specs.declared.letter.Letter.{Letter}
use Rattle.psl_tree.specs.SequenceAutomata.{Edge, Steps}
use Rattle.psl_tree.specs.SequenceConstruction.{Draft}

-- a test that fails does not hold
pub never : IsTrue false → ⊥
never h = cc

-- both ways, one after the other
pub same-trans : (A B C : Type 0) → (A ↔ B) → (B ↔ C) → A ↔ C
same-trans A B C p q = (λ a. q.0 (p.0 a), λ c. p.1 (q.1 c))

pub same-sym : (A B : Type 0) → (A ↔ B) → B ↔ A
same-sym A B p = (p.1, p.0)

-- acceptance from a state, where look gives the state of each number
abbrev pub From : (ℕ → Draft) → Draft → List Letter → Type 0
From look s [] = IsTrue s.is_final
From look s (x ∷ xs) = Steps s.edges x (λ q. From look (look q) xs)

-- each edge leads to a number from low on and below high
abbrev pub Within : ℕ → ℕ → List Edge → Type 0
Within low high [] = Unit {0}
Within low high (e ∷ es) = (low ≤ e.target) × (e.target < high) × Within low high es

-- from the states of a range edges lead into the range
abbrev pub IsClosed : ℕ → ℕ → (ℕ → Draft) → Type 0
IsClosed low high look = (q : ℕ) → low ≤ q → q < high → Within low high (look q).edges

pub Within-append : (low high : ℕ) (es fs : List Edge) → Within low high es → Within low high fs → Within low high (es ++ fs)
Within-append low high [] fs p q = q
Within-append low high (e ∷ es) fs p q = (p.0, p.1, Within-append low high es fs p.2 q)

pub Within-wider : (low high low' high' : ℕ) → low' ≤ low → high ≤ high' → (es : List Edge) → Within low high es → Within low' high' es
Within-wider low high low' high' l h [] p = tt
Within-wider low high low' high' l h (e ∷ es) p = (omega (arith, p.0), omega (arith, p.1), Within-wider low high low' high' l h es p.2)

-- a step is monotone in what holds of its targets
pub Steps-map : (es : List Edge) (x : Letter) (P Q : ℕ → Type 0) → ((q : ℕ) → P q → Q q) → Steps es x P → Steps es x Q
Steps-map [] x P Q f s = s
Steps-map (e ∷ es) x P Q f (inl h) = inl (h.0, f e.target h.1)
Steps-map (e ∷ es) x P Q f (inr s) = inr (Steps-map es x P Q f s)

pub Steps-map_within : (low high : ℕ) (es : List Edge) (x : Letter) (P Q : ℕ → Type 0) → Within low high es
    → ((q : ℕ) → low ≤ q → q < high → P q → Q q) → Steps es x P → Steps es x Q
Steps-map_within low high [] x P Q w f s = s
Steps-map_within low high (e ∷ es) x P Q w f (inl h) = inl (h.0, f e.target w.0 w.1 h.1)
Steps-map_within low high (e ∷ es) x P Q w f (inr s) = inr (Steps-map_within low high es x P Q w.2 f s)

-- a step to one number
abbrev pub StepTo : List Edge → Letter → ℕ → Type 0
StepTo es x q = Steps es x (λ r. r ≡ q)

pub take-step : (es : List Edge) (x : Letter) (P : ℕ → Type 0) → Steps es x P → (q : ℕ) × StepTo es x q × P q
take-step [] x P s = absurd s
take-step (e ∷ es) x P (inl h) = (e.target, inl (h.0, refl), h.1)
take-step (e ∷ es) x P (inr s) = let t = take-step es x P s in (t.0, inr t.1, t.2)

pub make-step : (es : List Edge) (x : Letter) (q : ℕ) (P : ℕ → Type 0) → StepTo es x q → P q → Steps es x P
make-step es x q P h p = Steps-map es x (λ r. r ≡ q) P (λ r e. subst P (sym e) p) h

-- a step along one of two lists of edges
pub Steps-append_left : (es fs : List Edge) (x : Letter) (P : ℕ → Type 0) → Steps es x P → Steps (es ++ fs) x P
Steps-append_left [] fs x P s = absurd s
Steps-append_left (e ∷ es) fs x P (inl h) = inl h
Steps-append_left (e ∷ es) fs x P (inr s) = inr (Steps-append_left es fs x P s)

pub Steps-append_right : (es fs : List Edge) (x : Letter) (P : ℕ → Type 0) → Steps fs x P → Steps (es ++ fs) x P
Steps-append_right [] fs x P s = s
Steps-append_right (e ∷ es) fs x P s = inr (Steps-append_right es fs x P s)

pub Steps-append : (es fs : List Edge) (x : Letter) (P : ℕ → Type 0) → Steps (es ++ fs) x P → Steps es x P ⊎ Steps fs x P
Steps-append [] fs x P s = inr s
Steps-append (e ∷ es) fs x P (inl h) = inl (inl h)
Steps-append (e ∷ es) fs x P (inr s) =
    elim (Steps-append es fs x P s) as (λ _. Steps (e ∷ es) x P ⊎ Steps fs x P) [ inl h ↦ inl (inr h) | inr h ↦ inr h ]

-- two numberings that agree on a range that edges do not leave accept the same from a state whose
-- edges lead into the range
pub agree : (low high : ℕ) (look look' : ℕ → Draft) → IsClosed low high look
    → ((q : ℕ) → low ≤ q → q < high → look' q ≡ look q)
    → (s : Draft) → Within low high s.edges → (xs : List Letter) → From look s xs ↔ From look' s xs
agree low high look look' closed same s w xs = (there s w xs, back s w xs) where
  there : (s : Draft) → Within low high s.edges → (xs : List Letter) → From look s xs → From look' s xs
  there s w [] f = f
  there s w (x ∷ xs) f = Steps-map_within low high s.edges x (λ q. From look (look q) xs) (λ q. From look' (look' q) xs) w
      (λ q l h g. subst (λ (t : Draft). From look' t xs) (sym (same q l h)) (there (look q) (closed q l h) xs g)) f

  back : (s : Draft) → Within low high s.edges → (xs : List Letter) → From look' s xs → From look s xs
  back s w [] f = f
  back s w (x ∷ xs) f = Steps-map_within low high s.edges x (λ q. From look' (look' q) xs) (λ q. From look (look q) xs) w
      (λ q l h g. back (look q) (closed q l h) xs (subst (λ (t : Draft). From look' t xs) (same q l h) g)) f

-- Readings whose results are alike: one fault, or values that are alike.
use Rattle.std.proofs.Common.{◌≡◌, refl, sym, ◌∙◌, ap, subst, ℕ, List, Option, None, Some, Ok, Err, arith, inl, inr}
use Rattle.std.specs.Prelude.{◌≢◌, Result}
use Rattle.commands.specs.Faults.{fault_in, of_file, fault_of}
use Rattle.commands.specs.Stages.{AndThen, ToldBy, OfContent}
use Rattle.commands.specs.declared.outcome.Fault.{Fault}
use Rattle.commands.specs.declared.reason.Diagnostic.{Diagnostic}
use Rattle.commands.specs.declared.reason.Reason.TheVariants.{ReadFault, TooLong, NoMemory}

-- the same fault, or values that are alike
abbrev pub Alike : {A : Type 0} → (A → A → Type 0) → Result A Fault → Result A Fault → Type 0
Alike Same (Ok v) (Ok w) = Same v w
Alike Same (Err f) (Err g) = f ≡ g
Alike Same (Ok v) (Err g) = ⊥
Alike Same (Err f) (Ok w) = ⊥

-- each result of one reading is alike to each of another
abbrev pub Agree : {A : Type 0} → (A → A → Type 0) → (Result A Fault → Type 0) → (Result A Fault → Type 0) → Type 0
Agree {A = A} Same R S = (a b : Result A Fault) → R a → S b → Alike Same a b

pub alike-err : {A : Type 0} (Same : A → A → Type 0) (f g : Fault) (a b : Result A Fault) → a ≡ Err f → b ≡ Err g → f ≡ g → Alike Same a b
alike-err Same f g a b p q e = subst (λ x. Alike Same x b) (sym p) (subst (λ y. Alike Same (Err f) y) (sym q) e)

pub alike-ok : {A : Type 0} (Same : A → A → Type 0) (v w : A) (a b : Result A Fault) → a ≡ Ok v → b ≡ Ok w → Same v w → Alike Same a b
alike-ok Same v w a b p q e = subst (λ x. Alike Same x b) (sym p) (subst (λ y. Alike Same (Ok v) y) (sym q) e)

pub agree-faults : {A : Type 0} (Same : A → A → Type 0) (R S : Result A Fault → Type 0) → Agree Same R S → (a b : Result A Fault) → R a → S b → fault_of a ≡ fault_of b
agree-faults Same R S agree a b h k = by a b (agree a b h k)
  where
    by : (x y : Result _ Fault) → Alike Same x y → fault_of x ≡ fault_of y
    by (Ok v) (Ok w) s = refl
    by (Err f) (Err g) s = ap Some s
    by (Ok v) (Err g) s = absurd s
    by (Err f) (Ok w) s = absurd s

module _ {A F : Type 0} (name : List ℕ) (said said' : F → Diagnostic) (IsValue IsValue' : A → Type 0) (IsFault IsFault' : F → Type 0) (Same : A → A → Type 0) where
  pub agree-told : ((a b : A) → IsValue a → IsValue' b → Same a b)
      → ((c d : F) → ((said c).reason ≢ NoMemory) → ((said' d).reason ≢ NoMemory) → IsFault c → IsFault' d → said c ≡ said' d)
      → ((a : A) (d : F) → ((said' d).reason ≢ NoMemory) → IsValue a → IsFault' d → ⊥)
      → ((c : F) (b : A) → ((said c).reason ≢ NoMemory) → IsFault c → IsValue' b → ⊥)
      → Agree Same (ToldBy name said IsValue IsFault) (ToldBy name said' IsValue' IsFault')
  agree-told values faults apart apart' (Ok a) (Ok b) h k = values a b h k
  agree-told values faults apart apart' (Ok a) (Err g) h (d, is, n, _) = absurd (apart a d n h is)
  agree-told values faults apart apart' (Err f) (Ok b) (c, is, n, _) k = absurd (apart' c b n is k)
  agree-told values faults apart apart' (Err f) (Err g) (c, is, n, e) (d, is', n', e') = e ∙ ap (fault_in name) (faults c d n n' is is') ∙ sym e'

module _ {A B : Type 0} (Same : A → A → Type 0) (Same' : B → B → Type 0) (First First' : Result A Fault → Type 0) (Next Next' : A → Result B Fault → Type 0) where
  pub agree-then : Agree Same First First' → ((v w : A) → Same v w → Agree Same' (Next v) (Next' w)) → Agree Same' (AndThen First Next) (AndThen First' Next')
  agree-then f n a b (inl (x, h, e)) (inl (y, k, d)) = alike-err Same' x y a b e d (f (Err x) (Err y) h k)
  agree-then f n a b (inl (x, h, e)) (inr (w, k, q)) = absurd (f (Err x) (Ok w) h k)
  agree-then f n a b (inr (v, h, p)) (inl (y, k, d)) = absurd (f (Ok v) (Err y) h k)
  agree-then f n a b (inr (v, h, p)) (inr (w, k, q)) = n v w (f (Ok v) (Ok w) h k) a b p q

pub agree-content : {A : Type 0} (Same : A → A → Type 0) (Reading Reading' : List ℕ → Result A Fault → Type 0) (name : List ℕ) (content : Option (List ℕ))
    → ((bytes : List ℕ) → Agree Same (Reading bytes) (Reading' bytes)) → Agree Same (OfContent Reading name content) (OfContent Reading' name content)
agree-content Same Reading Reading' name None r a b h k = alike-err Same (of_file ReadFault name) (of_file ReadFault name) a b h k refl
agree-content Same Reading Reading' name (Some bytes) r a b (inl (_, e)) (inl (_, f)) = alike-err Same (of_file TooLong name) (of_file TooLong name) a b e f refl
agree-content Same Reading Reading' name (Some bytes) r a b (inl (lt, _)) (inr (le, _)) = absurd (omega arith)
agree-content Same Reading Reading' name (Some bytes) r a b (inr (le, _)) (inl (lt, _)) = absurd (omega arith)
agree-content Same Reading Reading' name (Some bytes) r a b (inr (_, h)) (inr (_, k)) = r bytes a b h k

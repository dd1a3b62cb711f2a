-- The steps of loops that go over a list by its places.
use Rattle.std.proofs.Common.{◌≡◌, sym, ap, ◌∙◌, subst, ℕ, ◌+◌, Bool as Truth, false, List, [], ◌∷◌, ◌++◌, map, take, get_or, Some, append_assoc, arith}
use Rattle.std.specs.Prelude.{slice_get, All}
use Rattle.std.proofs.lemmas.List.{map_push, take_more}
use Rattle.std.proofs.lemmas.List.Elements.{All-push}
use Rattle.std.proofs.lemmas.List.FromFn.{map-range_with_len_more}
use Rattle.std.proofs.lemmas.Option.{get_or_from_slice_get, slice_get_within}
use Rattle.joint.specs.Joined.{Joined}
use Rattle.joint.specs.Slices.{bits_from}
use Rattle.joint_theory.specs.Bits.{state_bits}
use Rattle.joint_theory.specs.States.{IsState}
use Rattle.joint_theory.specs.declared.path.JointState.{JointState}
use Rattle.reach.specs.Readings.{AreRead}

-- the member at a place comes next
pub taken-next : {X : Type 0} (xs : List X) (place : ℕ) (x : X) → slice_get xs place ≡ Some x
    → take place xs ++ x ∷ [] ≡ take (place + 1) xs
taken-next xs place x is =
    ap (λ y. take place xs ++ y ∷ []) (sym (get_or_from_slice_get xs place x x is))
    ∙ sym (take_more xs place x (slice_get_within xs place x is))

pub pushed-next : {X : Type 0} (xs : List X) (place : ℕ) (x : X) (old new : List X) → slice_get xs place ≡ Some x
    → old ≡ take place xs → new ≡ old ++ x ∷ [] → new ≡ take (place + 1) xs
pushed-next xs place x old new is so_far pushed =
    pushed ∙ ap (λ front. front ++ x ∷ []) so_far ∙ taken-next xs place x is

-- the same behind what was there before
pub added-next : {X : Type 0} (xs : List X) (place : ℕ) (x : X) (front old new : List X) → slice_get xs place ≡ Some x
    → old ≡ front ++ take place xs → new ≡ old ++ x ∷ [] → new ≡ front ++ take (place + 1) xs
added-next xs place x front old new is so_far pushed =
    pushed ∙ ap (λ ys. ys ++ x ∷ []) so_far ∙ append_assoc front (take place xs) (x ∷ [])
    ∙ ap (λ ys. front ++ ys) (taken-next xs place x is)

pub bits-next : (values : List Truth) (start number : ℕ) (value : Truth) (old new : List Truth)
    → value ≡ get_or values (start + number) false → old ≡ bits_from values start number → new ≡ old ++ value ∷ []
    → new ≡ bits_from values start (number + 1)
bits-next values start number value old new is so_far pushed =
    pushed ∙ ap (λ front. front ++ value ∷ []) so_far ∙ ap (λ v. bits_from values start number ++ v ∷ []) is
    ∙ sym (map-range_with_len_more (λ k. get_or values (start + k) false) 0 number number (omega arith))

-- what holds of each member holds of the one at a place
pub at-place : {X : Type 0} (P : X → Type 0) (xs : List X) (place : ℕ) (x : X) → All P xs → slice_get xs place ≡ Some x → P x
at-place P xs place x each is =
    subst P (get_or_from_slice_get xs place x x is) (each place x (slice_get_within xs place x is))

pub read-next : (joined : Joined) (path : List (List Truth)) (place : ℕ) (bits : List Truth) (old new : List JointState)
    (state : JointState) → slice_get path place ≡ Some bits → AreRead joined (take place path) old
    → IsState joined.design joined.automaton joined.visits state
    → state_bits joined.design joined.automaton joined.visits state ≡ bits → new ≡ old ++ state ∷ []
    → AreRead joined (take (place + 1) path) new
read-next joined path place bits old new state is so_far is_state same pushed = record {
  are = subst (All (IsState joined.design joined.automaton joined.visits)) (sym pushed)
      (All-push (IsState joined.design joined.automaton joined.visits) old state so_far.are is_state);
  bits = ap (map (state_bits joined.design joined.automaton joined.visits)) pushed
      ∙ map_push (state_bits joined.design joined.automaton joined.visits) old state
      ∙ ap (λ front. front ++ state_bits joined.design joined.automaton joined.visits state ∷ []) so_far.bits
      ∙ ap (λ b. take place path ++ b ∷ []) same ∙ taken-next path place bits is;
}

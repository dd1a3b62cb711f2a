-- The part of an until, as the program makes it.
use Rattle.std.proofs.Common.{◌≡◌, ap, ◌∙◌, ℕ, ◌+◌, List, [], ◌∷◌, ◌++◌, length, arith}
use Rattle.std.specs.Prelude.{Result, Ok, Err, IfOk, Box}
use Rattle.std.specs.declared.alloc.Global.{Global}
use Rattle.std.proofs.lemmas.List.{map-append, map_push, length-append, length-map}
use Rattle.psl_base.specs.declared.items.NoMemory.{NoMemory}
use Rattle.alternating_theory.specs.Construction.{Part, until_obligation, until_part}
use Rattle.alternating_theory.specs.Obligations.{Obligation}
use Rattle.alternating.specs.Parts.{part_of_code}
use Rattle.alternating.specs.Pending.{pending_of, pendings_of}
use Rattle.alternating.specs.declared.part.Part as code_part
use Rattle.alternating.specs.declared.pending.Pending as code_pending

abbrev part : Obligation → List Obligation → Part
part start rest = record { start = start; rest = rest }

-- a box that has a part
pub boxed-part : (made : Result (Box code_part.Part Global) NoMemory) (held : code_part.Part) (wanted : Part) → IfOk made (λ new. new.value ≡ held) → part_of_code held ≡ wanted
    → IfOk made (λ new. part_of_code new.value ≡ wanted)
boxed-part (Ok new) held wanted e w = ap (λ (p : code_part.Part). part_of_code p) e ∙ w
boxed-part (Err _) held wanted e w = tt

module _ (offset number : ℕ) (left right new : code_part.Part) (copy : code_pending.Pending) (joined : List code_pending.Pending)
    (join : joined ≡ left.rest.items ++ right.rest.items) (count : number ≡ length joined)
    (begins : pending_of new.start ≡ until_obligation (offset + number) (pending_of left.start) (pending_of right.start))
    (copied : pending_of copy ≡ pending_of new.start) (added : new.rest.items ≡ joined ++ copy ∷ []) where
  many : number ≡ length (pendings_of left.rest.items) + length (pendings_of right.rest.items)
  many = omega (
    arith,
    count,
    ap (λ (l : List code_pending.Pending). length l) join,
    length-append left.rest.items right.rest.items,
    length-map left.rest.items pending_of,
    length-map right.rest.items pending_of,
  )

  again : Obligation
  again = until_obligation (offset + (length (pendings_of left.rest.items) + length (pendings_of right.rest.items))) (pending_of left.start) (pending_of right.start)

  start-is : pending_of new.start ≡ again
  unfolding again
  start-is = begins ∙ ap (λ n. until_obligation (offset + n) (pending_of left.start) (pending_of right.start)) many

  rest-is : pendings_of new.rest.items ≡ (pendings_of left.rest.items ++ pendings_of right.rest.items) ++ again ∷ []
  rest-is =
      ap (λ (l : List code_pending.Pending). pendings_of l) added
      ∙ map_push pending_of joined copy
      ∙ ap (λ (o : Obligation). pendings_of joined ++ o ∷ []) (copied ∙ start-is)
      ∙ ap (λ (l : List Obligation). l ++ again ∷ []) (ap (λ (l : List code_pending.Pending). pendings_of l) join ∙ map-append pending_of left.rest.items right.rest.items)

  pub until-made : part_of_code new ≡ until_part offset (part_of_code left) (part_of_code right)
  unfolding again
  until-made =
      ap (λ (o : Obligation). part o (pendings_of new.rest.items)) start-is
      ∙ ap (λ (l : List Obligation). part again l) rest-is

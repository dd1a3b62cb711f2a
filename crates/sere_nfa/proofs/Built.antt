-- What is known of the program's part for a sequence: it is the part of the construction.
use Rattle.std.proofs.Common.{◌≡◌, ℕ, ◌+◌, ◌*◌, ◌≤◌, ◌<◌, List, [], ◌∷◌, length, sym, subst, arith}
use Rattle.std.specs.List.{AllByRecursion}
use Rattle.std.specs.Prelude.{Result, Ok, Err, IfOk, Box}
use Rattle.std.specs.declared.alloc.Global.{Global}
use Rattle.psl_base.specs.declared.items.NoMemory.{NoMemory}
use Rattle.std.proofs.Math.Nat.{mul-le-mul_left}
use Rattle.std.proofs.lemmas.List.{length-map}
use Rattle.std.proofs.lemmas.List.Elements.{All-from_recursion}
use Rattle.psl_tree.specs.Counts.{states_of}
use Rattle.psl_tree.specs.Trees.{Sequence, Empty, One, Concat, Fuse, Either, Both, Star, Clocked}
use Rattle.psl_tree.specs.Clockless.{HasNoClock}
use Rattle.psl_tree.specs.SequenceConstruction.{Part, part_of}
use Rattle.sere_nfa.specs.Views.{edges_of, draft_of, drafts_of, part_of_code, TargetsWithin, StatesWithin, PartWithin}
use Rattle.sere_nfa.specs.declared.edge.NfaEdge.{NfaEdge}
use Rattle.sere_nfa.specs.declared.part.Part as code_part
use Rattle.sere_nfa.specs.declared.state.State as code_state
use Rattle.psl_tree.proofs.SequenceSteps.{Within}
use Rattle.psl_tree.proofs.SequenceNumbers.{EachWithin}
use Rattle.psl_tree.proofs.SequenceMeans.{IsPartOf, part-means}

targets-recursion : (low high : ℕ) (edges : List NfaEdge) → Within low high (edges_of edges) → AllByRecursion (λ edge. (low ≤ edge.target) × (edge.target < high)) edges
targets-recursion low high [] w = tt
targets-recursion low high (e ∷ edges) w = ((w.0, w.1), targets-recursion low high edges w.2)

pub targets-within : (low high : ℕ) (edges : List NfaEdge) → Within low high (edges_of edges) → TargetsWithin low high edges
targets-within low high edges w = All-from_recursion (λ edge. (low ≤ edge.target) × (edge.target < high)) edges (targets-recursion low high edges w)

states-recursion : (low high : ℕ) (states : List code_state.State) → EachWithin low high (drafts_of states) → AllByRecursion (λ state. TargetsWithin low high state.edges) states
states-recursion low high [] w = tt
states-recursion low high (s ∷ states) w = (targets-within low high s.edges w.0, states-recursion low high states w.1)

pub states-within : (low high : ℕ) (states : List code_state.State) → EachWithin low high (drafts_of states) → StatesWithin low high states
states-within low high states w = All-from_recursion (λ state. TargetsWithin low high state.edges) states (states-recursion low high states w)

pub built-means : (offset : ℕ) (r : Sequence) (part : code_part.Part) → HasNoClock r → part_of_code part ≡ part_of offset r → IsPartOf offset (part_of_code part) r
built-means offset r part h e = subst (λ (p : Part). IsPartOf offset p r) (sym e) (part-means offset r h)

pub built-within : (offset : ℕ) (r : Sequence) (part : code_part.Part) → HasNoClock r → part_of_code part ≡ part_of offset r
    → PartWithin offset (offset + length part.states.items) part
built-within offset r part h e =
    let means = built-means offset r part h e in
    let total : length (drafts_of part.states.items) ≡ length part.states.items = length-map part.states.items draft_of in (
      targets-within offset (offset + length part.states.items) part.start.edges
          (subst (λ (n : ℕ). Within offset (offset + n) (edges_of part.start.edges)) total means.start_within),
      states-within offset (offset + length part.states.items) part.states.items
          (subst (λ (n : ℕ). EachWithin offset (offset + n) (drafts_of part.states.items)) total means.each_within),
    )

pub built-count : (offset : ℕ) (r : Sequence) (part : code_part.Part) → HasNoClock r → part_of_code part ≡ part_of offset r → length part.states.items < states_of r
built-count offset r part h e =
    let means = built-means offset r part h e in
    omega (arith, means.count, length-map part.states.items draft_of)

-- a sequence counts at least one state
pub some-state : (r : Sequence) → 0 < states_of r
some-state Empty = omega arith
some-state (One b) = omega arith
some-state (Concat r s) = omega (arith, some-state r, some-state s)
some-state (Fuse r s) = omega (arith, some-state r, some-state s)
some-state (Either r s) = omega (arith, some-state r, some-state s)
some-state (Both r s) = product (states_of r) (states_of s) (some-state r) (some-state s) where
  product : (n m : ℕ) → 0 < n → 0 < m → 0 < n * m
  product n m h g = grind arith
some-state (Star r) = omega (arith, some-state r)
some-state (Clocked r b) = some-state r

-- what a call that makes the part of a sequence tells besides
pub built-ok-within : (offset : ℕ) (r : Sequence) (made : Result (Box code_part.Part Global) NoMemory) → HasNoClock r → IfOk made (λ part. part_of_code part.value ≡ part_of offset r)
    → IfOk made (λ part. PartWithin offset (offset + length part.value.states.items) part.value)
built-ok-within offset r (Ok part) h e = built-within offset r part.value h e
built-ok-within offset r (Err e) h _ = tt

pub built-ok-count : (offset : ℕ) (r : Sequence) (made : Result (Box code_part.Part Global) NoMemory) → HasNoClock r → IfOk made (λ part. part_of_code part.value ≡ part_of offset r)
    → IfOk made (λ part. length part.value.states.items < states_of r)
built-ok-count offset r (Ok part) h e = built-count offset r part.value h e
built-ok-count offset r (Err e) h _ = tt

-- the first of two sequences counts at most as many states as their product
pub product_grows : (r s : Sequence) → states_of r ≤ states_of r * states_of s
product_grows r s = let le : states_of r * 1 ≤ states_of r * states_of s = mul-le-mul_left (states_of r) (some-state s) in omega (arith, le)

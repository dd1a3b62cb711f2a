use Rattle.std.proofs.Common.{◌≡◌, ◌/◌, ap, length, arith}
use Rattle.std.specs.List.{Contains}
use Rattle.std.proofs.lemmas.List.{length_push, length-set}
use Rattle.cdcl_trail.specs.Literals.{opposite}
use Rattle.cdcl_trail.specs.Path.{Path}
use Rattle.cdcl_trail.proofs.Marks.{marked-push, places-push, begun-push}
use Rattle.cdcl_trail.proofs.Paths.{few, few_more}
use Rattle.cdcl_trail.proofs.path.Trail.push.Goals as goal

pub overflow_cast-place : goal.overflow_cast-place
overflow_cast-place c =
    let of = c.self.inside in
    let keeps = c.self.invariant in
    let most = few of.marks.items of.places.items of.literals.items keeps.marks keeps.places keeps.size in
    let variables = keeps.variables in
    omega (arith, most, variables, c.len-place.ensures)

pub push_reserved-requires : goal.push_reserved-requires
push_reserved-requires c =
    let of = c.self.inside in
    let keeps = c.self.invariant in
    let variables = ap (λ (p : Path). p.variables) c.self.view_is in
    let literals = ap (λ (p : Path). p.literals) c.self.view_is in
    let most = few_more of.marks.items of.places.items of.literals.items c.args.literal keeps.marks keeps.places keeps.size (rw variables c.requires.within) (rw literals c.requires.not_true) (rw literals c.requires.not_false) in
    omega (arith, most, keeps.room, of.literals.ok.0)

pub push_reserved-requires-2 : goal.push_reserved-requires-2
push_reserved-requires-2 c =
    let of = c.self.inside in
    let keeps = c.self.invariant in
    let variables = ap (λ (p : Path). p.variables) c.self.view_is in
    let literals = ap (λ (p : Path). p.literals) c.self.view_is in
    let most = few_more of.marks.items of.places.items of.literals.items c.args.literal keeps.marks keeps.places keeps.size (rw variables c.requires.within) (rw literals c.requires.not_true) (rw literals c.requires.not_false) in
    omega (arith, most, keeps.room, of.reasons.ok.0, keeps.reasons)

pub invariant_of-self : goal.invariant_of-self
invariant_of-self c =
    let of = c.self.inside in
    let keeps = c.self.invariant in
    let literal = c.args.literal in
    let reason = c.args.reason in
    let variables = ap (λ (p : Path). p.variables) c.self.view_is in
    let literals = ap (λ (p : Path). p.literals) c.self.view_is in
    let size = keeps.size in
    let within = c.requires.within in
    let not_true : Contains of.literals.items literal → ⊥ = rw literals c.requires.not_true in
    let not_false : Contains of.literals.items (opposite literal) → ⊥ = rw literals c.requires.not_false in
    let added = c.push_reserved.ensures.items in
    let with_reason = c.push_reserved-2.ensures.items in
    let at : c.len-place.result ≡ length of.literals.items = omega (arith, of.literals.ok.0, c.len-place.ensures) in
    let same = length-set of.places.items (literal / 2) c.len-place.result in
    record {
      marks = rw added (marked-push of.marks.items of.literals.items literal keeps.marks (omega arith));
      places = rw (added, at) (places-push of.places.items of.literals.items literal keeps.places not_true not_false (omega arith));
      size = omega (arith, length-set of.marks.items literal, same);
      variables = omega (arith, same, keeps.variables);
      reasons = omega (arith, ap length added, ap length with_reason, length_push of.literals.items literal, length_push of.reasons.items reason, keeps.reasons);
      rising = keeps.rising;
      begun = rw added (begun-push of.limits.items of.literals.items literal keeps.begun);
      room = rw (same, c.push_reserved.ensures.capacity, c.push_reserved-2.ensures.capacity) keeps.room;
    }

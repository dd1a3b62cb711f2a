use Rattle.std.proofs.Common.{◌≡◌, ◌<◌, ◌++◌, ◌∷◌, [], sym, ap, ◌∙◌, length, arith}
use Rattle.std.specs.List.{All}
use Rattle.std.proofs.lemmas.List.{length_push}
use Rattle.std.proofs.lemmas.List.Elements.{All-push}
use Rattle.cdcl_trail.specs.Path.{Path}
use Rattle.cdcl_trail.proofs.Marks.{rising-decide}
use Rattle.cdcl_trail.proofs.Paths.{few, rising_few}
use Rattle.cdcl_trail.proofs.path.Trail.decide.Goals as goal

pub overflow_cast-start : goal.overflow_cast-start
overflow_cast-start c =
    let of = c.self.inside in
    let keeps = c.self.invariant in
    let most = few of.marks.items of.places.items of.literals.items keeps.marks keeps.places keeps.size in
    let variables = keeps.variables in
    omega (arith, most, variables, c.len-start.ensures)

pub push_reserved-requires : goal.push_reserved-requires
push_reserved-requires c =
    let of = c.self.inside in
    let keeps = c.self.invariant in
    let now = c.self-2.inside in
    let stays = c.self-2.invariant in
    let limits : now.limits.items ≡ of.limits.items = ap (λ (p : Path). p.limits) (c.self-2.view_is ∙ c.push.ensures) ∙ ap (λ (p : Path). p.limits) (sym c.self.view_is) in
    let literals : now.literals.items ≡ of.literals.items ++ c.args.literal ∷ [] =
    ap (λ (p : Path). p.literals) (c.self-2.view_is ∙ c.push.ensures) ∙ ap (λ (p : Path). p.literals ++ c.args.literal ∷ []) (sym c.self.view_is) in
    let most = few now.marks.items now.places.items now.literals.items stays.marks stays.places stays.size in
    let rising = rising_few of.limits.items (length of.literals.items) keeps.rising keeps.begun in
    omega (arith, most, rising, ap length limits, ap length literals, length_push of.literals.items c.args.literal, stays.room, now.limits.ok.0)

pub invariant_of-self : goal.invariant_of-self
invariant_of-self c =
    let of = c.self.inside in
    let keeps = c.self.invariant in
    let now = c.self-2.inside in
    let stays = c.self-2.invariant in
    let start = c.len-start.result in
    let limits : now.limits.items ≡ of.limits.items = ap (λ (p : Path). p.limits) (c.self-2.view_is ∙ c.push.ensures) ∙ ap (λ (p : Path). p.limits) (sym c.self.view_is) in
    let literals : now.literals.items ≡ of.literals.items ++ c.args.literal ∷ [] =
    ap (λ (p : Path). p.literals) (c.self-2.view_is ∙ c.push.ensures) ∙ ap (λ (p : Path). p.literals ++ c.args.literal ∷ []) (sym c.self.view_is) in
    let at : start ≡ length of.literals.items = omega (arith, of.literals.ok.0, c.len-start.ensures) in
    let before : All (λ limit. limit < start) now.limits.items = rw (limits, at) keeps.begun in
    let below : start < length now.literals.items = omega (arith, at, ap length literals, length_push of.literals.items c.args.literal) in
    let added = c.push_reserved.ensures.items in
    record {
      marks = stays.marks;
      places = stays.places;
      size = stays.size;
      variables = stays.variables;
      reasons = stays.reasons;
      rising = rw added (rising-decide now.limits.items start stays.rising before);
      begun = rw added (All-push (λ limit. limit < length now.literals.items) now.limits.items start stays.begun below);
      room = rw c.push_reserved.ensures.capacity stays.room;
    }

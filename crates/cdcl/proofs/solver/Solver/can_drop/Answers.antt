use Rattle.std.proofs.Common.{◌≡◌, ◌+◌, ◌*◌, ◌<◌, ◌≤◌, Bool, true, false, not, length, ap, ◌∙◌, arith}
use Rattle.std.specs.Bool.{OnTrue, OnFalse}
use Rattle.clauses.specs.Logs.{lemmas}
use Rattle.clause_store.specs.Stored.{live_clauses}
use Rattle.cdcl.proofs.Loading.{size_few}
use Rattle.cdcl.proofs.Reducing.{can_drop_of}
use Rattle.cdcl.proofs.solver.Solver.can_drop.Goals as goal

pub stays_half-requires-clause-clauses : goal.stays_half-requires-clause-clauses
stays_half-requires-clause-clauses c =
    omega (arith, c.len-clauses.ensures, size_few c.args.self.now.formula.now.clauses, c.words-few.ensures.is, c.words-few.ensures.few)

unless : {P Q : Type 0} (test : Bool) → (P → Q) → OnFalse test P → OnTrue (not test) Q
unless true give holds = tt
unless false give holds = give holds

pub returns : goal.returns
returns c =
    let solver = c.args.self.now in
    let number = c.args.number in
    let clause = c.in-Some.clause.now in
    let past : length solver.formula.now.clauses < number = omega (arith, c.len-clauses.ensures, c.if-number-clauses.false) in
    let long : 2 < length clause = omega (arith, c.if-clause-le2.false) in
    let live : c.live-live.result ≡ live_clauses solver.propagator.clauses = c.live-live.ensures ∙ ap live_clauses c.clauses.ensures in
    let stays : lemmas solver.log + 2 + 2 * length solver.formula.now.clauses ≤ 2 * c.live-live.result = omega (arith, c.if-not-stays_half.ensures, c.lemmas.ensures, c.len-clauses.ensures) in
    unless c.is_reason.result
    (λ none. can_drop_of solver number clause c.live-live.result c.requires.ready c.trail.ensures.settled past c.in-Some.ensures.some long live stays none)
    (rw c.trail.ensures.is at c.is_reason.ensures)

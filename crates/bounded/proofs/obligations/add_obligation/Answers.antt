use Rattle.std.proofs.Common.{rules, w32}
use mir.Val.{SFits}
use Rattle.std.proofs.lemmas.Int.{to_z-of_z}
use Rattle.std.proofs.lemmas.Result.{err_from_is_err_and}
use Rattle.bounded.specs.Adding.{frame_in}
use Rattle.bounded.specs.Obligations.{obligation_built}
use Rattle.bounded.specs.Places.{owed_at}
use Rattle.bounded.proofs.Additions.{asks-clause, asks-none}
use Rattle.bounded.proofs.obligations.add_obligation.Goals as goal

pub returns-in_err-asked : goal.returns-in_err-asked
returns-in_err-asked c =
    let old = c.args.builder.now in
    let places = c.args.places.now in
    let a = places.automaton.now in
    let p = c.args.place in
    let q = c.args.number in
    let p_ = err_from_is_err_and c.from_residual.result c.from_residual.ensures.1 in
    rw (p_.1, p_.2) (asks-none old c.obligation.new.builder c.args.clauses.now c.args.clauses.now (owed_at a places.before p q) (obligation_built a (frame_in c.args.frames.now) places.last places.before p q old.nodes)
    c.in_err-asked.field-0.0 c.requires.places.given c.in_err-asked.ensures)

pub returns : goal.returns
returns c =
    let old = c.args.builder.now in
    let places = c.args.places.now in
    let a = places.automaton.now in
    let p = c.args.place in
    let q = c.args.number in
    let l = c.in_ok-asked.asked in
    let fits_l : SFits w32 c.in_ok-asked.asked = search rules in
    let fits_o : SFits w32 c.owed.result = search rules in
    let put = rw c.owed.ensures.is at (simp to_z-of_z at c.put_implication.ensures) in
    asks-clause old c.obligation.new.builder c.args.clauses.now c.put_implication.new.clauses (owed_at a places.before p q) l (obligation_built a (frame_in c.args.frames.now) places.last places.before p q old.nodes)
    c.put_implication.result c.in_ok-asked.ensures put

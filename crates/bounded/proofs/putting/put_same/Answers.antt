use Rattle.std.proofs.Common.{rules, [], ◌∷◌, neg_ℤ, w32}
use mir.Val.{SFits}
use Rattle.std.proofs.lemmas.Int.{to_z-of_z}
use Rattle.clauses.specs.declared.flat.TheConstants.{MOST_WORDS}
use Rattle.clauses.specs.Literals.{clause_words}
use Rattle.bounded.proofs.Additions.{words-grow}
use Rattle.bounded.proofs.Appending.{appends-then}
use Rattle.bounded.proofs.putting.put_same.Goals as goal

pub returns : goal.returns
returns c =
    let guard = c.args.guard in
    let first = c.args.first in
    let second = c.args.second in
    let fits_guard : SFits w32 guard = search rules in
    let fits_first : SFits w32 first = search rules in
    let fits_second : SFits w32 second = search rules in
    let one = simp to_z-of_z at c.in_ok-put_follows.ensures in
    let two = simp to_z-of_z at c.put_precedes.ensures in
    appends-then clause_words MOST_WORDS words-grow c.args.clauses.now c.put_follows.new.clauses c.put_precedes.new.clauses
    ((neg_ℤ guard ∷ neg_ℤ first ∷ second ∷ []) ∷ []) ((neg_ℤ guard ∷ first ∷ neg_ℤ second ∷ []) ∷ []) c.put_precedes.result one two

use Rattle.std.proofs.Common.{inl}
use Rattle.psl_base.proofs.Counting.{found_within}
use Rattle.psl_base.proofs.packed.PackedFiles.create.Goals as goal

pub empty-requires : goal.empty-requires
empty-requires c = found_within _ _ _ c.in-Some.ensures.found

pub returns-in-Some-clause-exact : goal.returns-in-Some-clause-exact
returns-in-Some-clause-exact c = (λ no. cc, λ past. let found = c.in-Some.ensures.found in absurd (cc (found.is, past.0)))

pub returns-in-Some-clause-created : goal.returns-in-Some-clause-created
returns-in-Some-clause-created c = let found = c.in-Some.ensures.found in inl (c.empty.ensures.empties (record { name = c.args.name.now; content = found.content }) found.at)

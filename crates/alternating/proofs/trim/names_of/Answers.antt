use Rattle.std.proofs.Common.{◌≡◌, ◌++◌, [], ◌∷◌, rules, arith}
use Rattle.sere_nfa.specs.Marking.{is_marked}
use Rattle.alternating.proofs.Trims.{count-few, count-more, name-more}
use Rattle.alternating.proofs.trim.names_of.Goals as goal

pub counted-count-requires : goal.counted-count-requires
counted-count-requires c = omega (arith, c.loop-marked.invariant.counted, count-few c.loop-marked.marked-index (is_marked c.args.marks.now), c.requires)

pub loop-marked-preserved : goal.loop-marked-preserved
loop-marked-preserved c =
    let pushed : c.push.new.self.items ≡ c.loop-marked.names.items ++ c.loop-marked.count ∷ [] = search rules in
    record {
      same_length = search rules;
      each = name-more c.loop-marked.names.items c.loop-marked.count c.loop-marked.marked-index (is_marked c.args.marks.now) c.push.new.self.items
          c.loop-marked.invariant.same_length c.loop-marked.invariant.each c.loop-marked.invariant.counted pushed;
      counted = count-more c.loop-marked.marked-index c.loop-marked.count c.counted-count.result (is_marked c.args.marks.now) c.loop-marked.invariant.counted c.counted-count.ensures;
    }

use Rattle.std.proofs.Common.{rules, w32}
use mir.Val.{SFits}
use Rattle.std.proofs.lemmas.Int.{to_z-of_z}
use Rattle.alternating.specs.declared.positive.Positive.{the_lemmas}
use Rattle.prover_bmc.proofs.Laters.{later-then, of-later, place-later}
use Rattle.prover_bmc.proofs.support.+asks.Goals as goal

pub asks-requires : goal.asks-requires
asks-requires t c =
    let fits : SFits w32 c.in_ok-first-in-And.first = search rules in (
      search (rules, the_lemmas),
      (
        place-later c.args.builder.now c.beside_each_other.new.builder c.args.place c.in_ok-first-in-And.ensures.later c.requires.place,
        rw to_z-of_z c.in_ok-first-in-And.ensures.left,
      ),
    )

pub asks-requires-in-And : goal.asks-requires-in-And
asks-requires-in-And t c =
    let fits : SFits w32 c.in_ok-first-in-And.second = search rules in
    let old = c.args.builder.now in
    let mid = c.beside_each_other.new.builder in
    let new = c.asks.new.builder in
    let later = c.in_ok-one-in-And.ensures.later in (
      search (rules, the_lemmas),
      (
        place-later old new c.args.place (later-then old mid new c.in_ok-first-in-And.ensures.later later) c.requires.place,
        rw to_z-of_z (of-later mid new c.in_ok-first-in-And.second later c.in_ok-first-in-And.ensures.right),
      ),
    )

pub asks-requires-in-Or : goal.asks-requires-in-Or
asks-requires-in-Or t c =
    let fits : SFits w32 c.in_ok-first-in-Or.first = search rules in (
      search (rules, the_lemmas),
      (
        place-later c.args.builder.now c.beside_each_other-in-Or.new.builder c.args.place c.in_ok-first-in-Or.ensures.later c.requires.place,
        rw to_z-of_z c.in_ok-first-in-Or.ensures.left,
      ),
    )

pub asks-requires-in-Or-2 : goal.asks-requires-in-Or-2
asks-requires-in-Or-2 t c =
    let fits : SFits w32 c.in_ok-first-in-Or.second = search rules in
    let old = c.args.builder.now in
    let mid = c.beside_each_other-in-Or.new.builder in
    let new = c.asks-in-Or.new.builder in
    let later = c.in_ok-one-in-Or.ensures.later in (
      search (rules, the_lemmas),
      (
        place-later old new c.args.place (later-then old mid new c.in_ok-first-in-Or.ensures.later later) c.requires.place,
        rw to_z-of_z (of-later mid new c.in_ok-first-in-Or.second later c.in_ok-first-in-Or.ensures.right),
      ),
    )

use Rattle.std.proofs.Common.{◌≡◌, true, false, length, get_or, None, Some, inr, refl, sym, ap, ◌∙◌, arith}
use Rattle.std.proofs.lemmas.List.{get_or_read}
use Rattle.blif_model.specs.Names.{place_of, number_at}
use Rattle.blif_model.specs.Scanning.{word_of}
use Rattle.blif_model.specs.Words.{mention_in}
use Rattle.blif_model.proofs.Mentioning.{twice-fault, large-fault}
use Rattle.blif_model.proofs.Places.{place_of-new}
use Rattle.blif_model.proofs.signals.Signals.mention.Goals as goal

pub returns-then-index-clause-fault : goal.returns-then-index-clause-fault
returns-then-index-clause-fault c =
    let named = c.args.self.now in
    let driven : c.self.inside.driven.items ≡ named.driven = ap (λ n. n.driven) c.self.view_is in
    let at : place_of c.self.inside.names c.text_of-name.result.now ≡ Some c.in-Some.number = sym c.in-Some.ensures.is ∙ refl in
    let word : c.text_of-name.result.now ≡ (word_of named.whole c.args.word).text = c.text_of-name.ensures ∙ ap (λ n. (word_of n.whole c.args.word).text) c.self.view_is in
    let place : place_of named.names (word_of named.whole c.args.word).text ≡ Some c.in-Some.number =
    ap (λ names. place_of names (word_of named.whole c.args.word).text) (sym (ap (λ n. n.names) c.self.view_is))
    ∙ ap (place_of c.self.inside.names) (sym word) ∙ at in
    let is : get_or named.driven c.in-Some.number false ≡ true =
    ap (λ list. get_or list c.in-Some.number false) (sym driven)
    ∙ sym (get_or_read c.self.inside.driven.items c.in-Some.number c.index.result.now (omega (arith, c.in-Some.ensures.within, c.self.invariant.1)) c.index.ensures false) ∙ c.if-index.true in
    inr (twice-fault named (mention_in named.whole c.args.drives c.args.word) c.in-Some.number c.place_in.result place c.if-drives.true is
    (c.place_in.ensures ∙ ap (λ n. (word_of n.whole c.args.word).place) c.self.view_is))

pub returns-then-number-ge-SIGNAL_LIMIT-clause-fault :
    goal.returns-then-number-ge-SIGNAL_LIMIT-clause-fault
returns-then-number-ge-SIGNAL_LIMIT-clause-fault c =
    let named = c.args.self.now in
    let names : c.self.inside.names ≡ named.names = ap (λ n. n.names) c.self.view_is in
    let word : c.text_of-name.result.now ≡ (word_of named.whole c.args.word).text = c.text_of-name.ensures ∙ ap (λ n. (word_of n.whole c.args.word).text) c.self.view_is in
    let place : place_of named.names (word_of named.whole c.args.word).text ≡ None =
    ap (λ list. place_of list (word_of named.whole c.args.word).text) (sym names)
    ∙ ap (place_of c.self.inside.names) (sym word) ∙ sym c.in-None.ensures.is in
    inr (large-fault named (mention_in named.whole c.args.drives c.args.word) c.place_in-then-number-ge-SIGNAL_LIMIT.result place
    (omega (arith, c.if-number-ge-SIGNAL_LIMIT.true, c.len-number.ensures, ap length names))
    (c.place_in-then-number-ge-SIGNAL_LIMIT.ensures ∙ ap (λ n. (word_of n.whole c.args.word).place) c.self.view_is))

pub returns-in_ok-add-in-None-clause-number : goal.returns-in_ok-add-in-None-clause-number
returns-in_ok-add-in-None-clause-number c =
    let named = c.args.self.now in
    let text = (word_of named.whole c.args.word).text in
    let names : c.self.inside.names ≡ named.names = ap (λ n. n.names) c.self.view_is in
    let word : c.text_of-name.result.now ≡ text = c.text_of-name.ensures ∙ ap (λ n. (word_of n.whole c.args.word).text) c.self.view_is in
    let place : place_of named.names text ≡ None =
    ap (λ list. place_of list text) (sym names) ∙ ap (place_of c.self.inside.names) (sym word) ∙ sym c.in-None.ensures.is in
    let count : c.len-number.result ≡ length named.names = c.len-number.ensures ∙ ap length names in
    rw (c.in_ok-add-in-None.ensures.named, place)
    (sym (ap number_at (place_of-new named.names text c.len-number.result count place)))

use Rattle.std.proofs.Common.{◌<◌, ◌-◌, ◌++◌, ◌∷◌, [], List, length, set, take, ap, ◌∙◌, arith}
use Rattle.std.proofs.lemmas.List.{get_or_default, length-set}
use Rattle.std.proofs.lemmas.Result.{on_err_weaker}
use Rattle.cdcl_propagation.specs.declared.watch.Watch.{Watch}
use Rattle.cdcl_propagation.proofs.Joining.{restored}
use Rattle.cdcl_propagation.proofs.adding.name_in_both.Goals as goal

pub returns-then-is_err-clause-err : goal.returns-then-is_err-clause-err
returns-then-is_err-clause-err c =
    let lists = c.args.lists.now in
    let first = c.args.pair.first in
    let second = c.args.pair.second in
    let one = c.push.new.self in
    let two = c.push-named.new.self in
    let watch : Watch = record { number = c.args.number; blocker = second; is_short = c.args.is_short } in
    let some = set lists first one in
    let all = set some second two in
    let within : second < length some = omega (arith, c.requires.second, length-set lists first one) in
    let within_all : first < length all = omega (arith, c.requires.first, length-set lists first one, length-set some second two) in
    let added = c.in_ok-push.ensures.ok ∙ ap (λ (l : List Watch). l ++ watch ∷ []) (get_or_default lists first c.index-lists-pair.result [] c.requires.first) in
    let taken = c.pop.ensures ∙ ap (λ (l : List Watch). take (length l - 1) l) (get_or_default all first c.index-lists-pair-then-is_err.result [] within_all) in
    on_err_weaker c.push-named.result
    (λ same. restored lists first second one two c.pop.new.self watch c.requires.first added (same ∙ get_or_default some second c.index-lists-pair-2.result [] within) taken)
    c.push-named.ensures.err

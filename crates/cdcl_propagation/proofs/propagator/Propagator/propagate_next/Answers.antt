use Rattle.std.proofs.Common.{◌≡◌, ◌<◌, ◌++◌, [], Option, Some, None, false, is_some, IfNone, length, get_or, take, drop, sym, ap, ◌∙◌, arith}
use Rattle.std.specs.List.{Contains}
use Rattle.std.specs.Vec.{with_item}
use Rattle.std.proofs.lemmas.List.{get_or_read, get_or_append_left, length-append, with_items_is, drop_all}
use Rattle.std.proofs.lemmas.List.Elements.{Contains-get_or}
use Rattle.cdcl_trail.specs.Literals.{opposite}
use Rattle.cdcl_trail.proofs.Numbers.{opposite-opposite, opposite_within}
use Rattle.cdcl_propagation.specs.State.{State}
use Rattle.cdcl_propagation.specs.Watching.{list_of, IsVisiting}
use Rattle.cdcl_propagation.proofs.Turning.{taken, put_back, put_back_done}
use Rattle.cdcl_propagation.proofs.propagator.Propagator.propagate_next.Goals as goal

pub visit_list-gap-requires-clause-visiting : goal.visit_list-gap-requires-clause-visiting
visit_list-gap-requires-clause-visiting c =
    let of = c.self.inside in
    let path = of.trail in
    let watched = c.self.invariant.watched in
    let literal = get_or path.literals of.head 0 in
    let is = c.opposite-literal.ensures ∙ ap (λ ls. opposite (get_or ls of.head 0)) c.literals.ensures.is in
    let state = c.self.view_is in
    let inside : of.head < length path.literals = rw (ap (λ (s : State). s.head) state, ap (λ (s : State). s.path) state) c.requires in
    let there : Contains path.literals (opposite (opposite literal)) = rw (opposite-opposite literal) (Contains-get_or path.literals of.head 0 inside) in
    let below : c.opposite-literal.result < length of.lists.items = rw (is, watched.size) (opposite_within path.variables literal (c.literals.ensures.path.within of.head 0 inside)) in
    let read : c.index_mut.result.now ≡ list_of of.lists.items c.opposite-literal.result =
    get_or_read of.lists.items c.opposite-literal.result c.index_mut.result.now below c.index_mut.ensures.value [] in
    rw (c.deref_mut.ensures.value, c.deref_mut-2.ensures.value, c.deref_mut-3.ensures.value, c.swap.ensures.there, read, is)
    (taken of.clauses of.pairs.items of.lists.items path of.head (opposite literal) c.swap.new.self there watched)

at_none : {X : Type 0} → (o : Option X) (P : Type 0) → is_some o ≡ false → IfNone o P → P
at_none None P none then = then
at_none (Some x) P none then = cc

pub invariant_of-self : goal.invariant_of-self
invariant_of-self c =
    let of = c.self.inside in
    let visit = c.visit_list-gap in
    let path = visit.new.trail in
    let literal = c.opposite-literal.result in
    let kept = visit.result.kept in
    let next = visit.result.next in
    let state = c.self.view_is in
    let inside : of.head < length of.trail.literals = rw (ap (λ (s : State). s.head) state, ap (λ (s : State). s.path) state) c.requires in
    let is = c.opposite-literal.ensures ∙ ap (λ ls. opposite (get_or ls of.head 0)) c.literals.ensures.is in
    let visiting : IsVisiting of.clauses visit.new.pairs visit.new.lists path of.head literal (take kept visit.new.list) (drop next visit.new.list) = rw is visit.ensures.visiting in
    let below : literal < length visit.new.lists =
    rw (is, visiting.size, visit.ensures.grown.variables) (opposite_within of.trail.variables (get_or of.trail.literals of.head 0) (c.literals.ensures.path.within of.head 0 inside)) in
    let pairs = with_items_is of.pairs visit.new.pairs (omega (arith, visit.auto.pairs, c.deref_mut.ensures.len)) in
    let lists = with_items_is (with_item of.lists literal c.swap.new.self) visit.new.lists (omega (arith, visit.auto.lists, c.deref_mut-2.ensures.len)) in
    let list = with_items_is c.swap.new.other visit.new.list (omega (arith, visit.auto.list, c.deref_mut-3.ensures.len)) in
    let closed : c.swap-2.new.self ≡ take kept visit.new.list ++ drop next visit.new.list = c.swap-2.ensures.here ∙ c.close_gap.ensures ∙ ap (λ l. take kept l ++ drop next l) list in
    let ended : next ≡ length visit.new.list = at_none visit.result.stop (next ≡ length visit.new.list) c.if-is_none.ensures visit.ensures.ended in
    let rest : drop next visit.new.list ≡ [] = drop_all next visit.new.list (omega arith) in
    let at_end : IsVisiting of.clauses visit.new.pairs visit.new.lists path of.head literal (take kept visit.new.list) [] = rw (sym rest) visiting in
    let head : of.head < length path.literals = omega (arith, ap length visit.ensures.grown.literals, length-append of.trail.literals visit.ensures.grown.more) in
    let same : literal ≡ opposite (get_or path.literals of.head 0) =
    is ∙ ap opposite (sym (ap (λ ls. get_or ls of.head 0) visit.ensures.grown.literals ∙ get_or_append_left of.trail.literals visit.ensures.grown.more 0 of.head inside)) in
    record {
      watched = rw (pairs, lists, closed, rest) (put_back_done of.clauses visit.new.pairs visit.new.lists path of.head literal (take kept visit.new.list) below head same at_end);
      reasons = visit.ensures.reasons;
      few = c.self.invariant.few;
    }

pub invariant_of-self-else-is_none : goal.invariant_of-self-else-is_none
invariant_of-self-else-is_none c =
    let of = c.self.inside in
    let visit = c.visit_list-gap in
    let path = visit.new.trail in
    let literal = c.opposite-literal.result in
    let kept = visit.result.kept in
    let next = visit.result.next in
    let state = c.self.view_is in
    let inside : of.head < length of.trail.literals = rw (ap (λ (s : State). s.head) state, ap (λ (s : State). s.path) state) c.requires in
    let is = c.opposite-literal.ensures ∙ ap (λ ls. opposite (get_or ls of.head 0)) c.literals.ensures.is in
    let visiting : IsVisiting of.clauses visit.new.pairs visit.new.lists path of.head literal (take kept visit.new.list) (drop next visit.new.list) = rw is visit.ensures.visiting in
    let below : literal < length visit.new.lists =
    rw (is, visiting.size, visit.ensures.grown.variables) (opposite_within of.trail.variables (get_or of.trail.literals of.head 0) (c.literals.ensures.path.within of.head 0 inside)) in
    let pairs = with_items_is of.pairs visit.new.pairs (omega (arith, visit.auto.pairs, c.deref_mut.ensures.len)) in
    let lists = with_items_is (with_item of.lists literal c.swap.new.self) visit.new.lists (omega (arith, visit.auto.lists, c.deref_mut-2.ensures.len)) in
    let list = with_items_is c.swap.new.other visit.new.list (omega (arith, visit.auto.list, c.deref_mut-3.ensures.len)) in
    let closed : c.swap-2.new.self ≡ take kept visit.new.list ++ drop next visit.new.list = c.swap-2.ensures.here ∙ c.close_gap.ensures ∙ ap (λ l. take kept l ++ drop next l) list in
    record {
      watched = rw (pairs, lists, closed) (put_back of.clauses visit.new.pairs visit.new.lists path of.head literal (take kept visit.new.list) (drop next visit.new.list) below visiting);
      reasons = visit.ensures.reasons;
      few = c.self.invariant.few;
    }

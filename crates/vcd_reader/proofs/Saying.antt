-- The meaning by the tokens before each token, against a walk that carries what they say along.
use Rattle.std.proofs.Common.{◌≡◌, List, [], ◌∷◌, ◌++◌, Option, None, Some, Result, Ok, Err, refl, sym, ap, ◌∙◌, append_assoc}
use Rattle.std.proofs.lemmas.List.{append-nil}
use Rattle.std.proofs.lemmas.List.Sums.{fold-append}
use Rattle.std.specs.Option.{option_map, option_or, option_to_list}
use Rattle.psl_base.specs.Tokens.{PlacedToken}
use Rattle.psl_base.specs.declared.place.Place.{Place}
use Rattle.vcd_reader.specs.declared.fault.VcdFault.{VcdFault}
use Rattle.vcd_reader.specs.Events.{Event}
use Rattle.vcd_reader.specs.Meaning.{rule_after, may_end_after, fault_at_end, first_fault, event_after, events_after, unless}
use Rattle.vcd_reader.specs.Rules.{may_end}
use Rattle.vcd_reader.specs.Running.{raised}
use Rattle.vcd_reader.specs.Standing.{Standing, standing_after, standing_by, at_first}

-- what a walk says: what the tokens say, and the events
abbrev pub Said : Type 0
Said = Result (Standing × List Event) VcdFault

-- an event more before what the later tokens say
abbrev pub more : Option Event → Said → Said
more event (Ok said) = Ok (said.0, option_to_list event ++ said.1)
more event (Err fault) = Err fault

-- what tokens say, from what those before them say
abbrev pub walk : Place → Standing → List PlacedToken → Said
walk end standing [] = unless (fault_at_end end (may_end standing.part standing.opened)) (standing, [])
walk end standing (t ∷ ts) = raised (rule_after standing t) t.place (more (event_after standing t) (walk end (standing_after standing t) ts))

by_later : (event : Option Event) (later : Option VcdFault) (standing : Standing) (events : List Event) → more event (unless later (standing, events)) ≡ unless later (standing, option_to_list event ++ events)
by_later event None standing events = refl
by_later event (Some fault) standing events = refl

by_rule : (rule : Option (Place → VcdFault)) (place : Place) (event : Option Event) (rest : Said) (later : Option VcdFault) (standing : Standing) (events : List Event) →
    rest ≡ unless later (standing, events) → raised rule place (more event rest) ≡ unless (option_or (option_map (λ fault. fault place) rule) later) (standing, option_to_list event ++ events)
by_rule None place event rest later standing events same = ap (more event) same ∙ by_later event later standing events
by_rule (Some fault) place event rest later standing events same = refl

pub walk-said : (end : Place) (before ts : List PlacedToken) → walk end (standing_by before) ts ≡ unless (first_fault end before ts) (standing_by (before ++ ts), events_after before ts)
walk-said end before [] = ap (λ (all : List PlacedToken). unless (fault_at_end end (may_end_after before)) (standing_by all, [])) (sym (append-nil before))
walk-said end before (t ∷ ts) =
    let next : walk end (standing_after (standing_by before) t) ts ≡ unless (first_fault end (before ++ t ∷ []) ts) (standing_by (before ++ t ∷ ts), events_after (before ++ t ∷ []) ts) =
    ap (λ (s : Standing). walk end s ts) (sym (fold-append standing_after at_first before (t ∷ []))) ∙ walk-said end (before ++ t ∷ []) ts
    ∙ ap (λ (all : List PlacedToken). unless (first_fault end (before ++ t ∷ []) ts) (standing_by all, events_after (before ++ t ∷ []) ts)) (append_assoc before (t ∷ []) ts) in
    by_rule (rule_after (standing_by before) t) t.place (event_after (standing_by before) t) (walk end (standing_after (standing_by before) t) ts) (first_fault end (before ++ t ∷ []) ts) (standing_by (before ++ t ∷ ts)) (events_after (before ++ t ∷ []) ts) next

-- Tokens that are read one after the other, without a fault: what they say.
use Rattle.std.proofs.Common.{◌≡◌, ◌∙◌, sym, ap, subst, List, [], ◌∷◌, ◌++◌, None, append_assoc, append-nil}
use Rattle.std.specs.Option.{option_map, option_to_list}
use Rattle.std.proofs.lemmas.List.Sums.{fold_push}
use Rattle.psl_base.specs.Tokens.{PlacedToken}
use Rattle.psl_base.specs.declared.place.Place.{Place}
use Rattle.vcd_reader.specs.declared.fault.VcdFault.{VcdFault}
use Rattle.vcd_reader.specs.Events.{Event}
use Rattle.vcd_reader.specs.FirstFault.{HaveNone}
use Rattle.vcd_reader.specs.Meaning.{rule_after, event_after, events_after}
use Rattle.vcd_reader.specs.Standing.{Standing, at_first, standing_after, standing_by}

-- from this standing the tokens have no fault, say these events, and lead to that standing
abbrev pub Goes : Standing → List PlacedToken → List Event → Standing → Type 0
Goes start [] events end = (events ≡ []) × (start ≡ end)
Goes start (t ∷ ts) events end =
    (rule_after start t ≡ None) × ((later : List Event) × (events ≡ option_to_list (event_after start t) ++ later) × Goes (standing_after start t) ts later end)

-- what such tokens say behind others
pub record Says (before ts : List PlacedToken) (events : List Event) (end : Standing) : Type 0 where
  pub none : HaveNone before ts
  pub events_are : events_after before ts ≡ events
  pub end_is : standing_by (before ++ ts) ≡ end

pub says : (before ts : List PlacedToken) (events : List Event) (start end : Standing) → standing_by before ≡ start → Goes start ts events end → Says before ts events end
says before [] events start end here goes = record {
  none = tt;
  events_are = sym goes.0;
  end_is = ap standing_by (append-nil before) ∙ here ∙ goes.1;
}
says before (t ∷ ts) events start end here goes =
    let later = goes.1.0 in
    let next : standing_by (before ++ t ∷ []) ≡ standing_after start t = fold_push standing_after at_first before t ∙ ap (λ (s : Standing). standing_after s t) here in
    let rest = says (before ++ t ∷ []) ts later (standing_after start t) end next goes.1.2 in
    record {
      none = (ap (option_map (λ (fault : Place → VcdFault). fault t.place)) (ap (λ (s : Standing). rule_after s t) here ∙ goes.0), rest.none);
      events_are = ap (λ (s : Standing). option_to_list (event_after s t) ++ events_after (before ++ t ∷ []) ts) here
          ∙ ap (λ (es : List Event). option_to_list (event_after start t) ++ es) rest.events_are ∙ sym goes.1.1;
      end_is = ap standing_by (sym (append_assoc before (t ∷ []) ts)) ∙ rest.end_is;
    }

-- one after the other
pub goes-on : (start mid end : Standing) (ts us : List PlacedToken) (es fs : List Event) → Goes start ts es mid → Goes mid us fs end → Goes start (ts ++ us) (es ++ fs) end
goes-on start mid end [] us es fs front back =
    subst (λ (s : Standing). Goes s us (es ++ fs) end) (sym front.1) (subst (λ (all : List Event). Goes mid us (all ++ fs) end) (sym front.0) back)
goes-on start mid end (t ∷ ts) us es fs front back = (
  front.0,
  (
    front.1.0 ++ fs,
    ap (λ (all : List Event). all ++ fs) front.1.1 ∙ append_assoc (option_to_list (event_after start t)) front.1.0 fs,
    goes-on (standing_after start t) mid end ts us front.1.0 fs front.1.2 back,
  ),
)

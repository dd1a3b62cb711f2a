-- Each valuation of a run that is shown has a value for each column.
use Rattle.std.proofs.Common.{◌≡◌, sym, ◌∙◌, ap, subst, ℕ, ◌<◌, Bool, List, [], ◌∷◌, length, Option, None, Some, arith}
use Rattle.std.specs.Prelude.{◌==◌, All, get_or, slice_get}
use Rattle.std.specs.List.{position_or_len}
use Rattle.std.proofs.lemmas.List.{get_or-map, length-map}
use Rattle.std.proofs.lemmas.List.Elements.{All-cons, All-get_or, All-nil}
use Rattle.std.proofs.lemmas.List.Folds.{find_at}
use Rattle.std.proofs.lemmas.Option.{get_or_from_slice_get, slice_get_within}
use Rattle.findings.specs.Recordings.{Form}
use Rattle.netlist.proofs.Walking.{run-made}
use Rattle.netlist.specs.Design.{Design, free_of}
use Rattle.netlist.specs.Runs.{IsRun}
use Rattle.netlist.specs.Sound.{IsSound, NamesBit}
use Rattle.netlist.specs.Valuations.{IsValuation}
use Rattle.netlist.specs.declared.run.Run.{Run}
use Rattle.prover.specs.Findings.{IsFinding}
use Rattle.prover.specs.declared.finding.Finding.{Finding}
use Rattle.prover.specs.declared.finding.Finding.TheVariants as findings
use Rattle.prover.specs.declared.options.Options.{Options}
use Rattle.psl_tree.specs.Names.{first_name}
use Rattle.psl_tree.specs.declared.directive.Directive.{Directive}
use Rattle.psl_tree.specs.declared.name.Name.{Name}
use Rattle.findings.proofs.Paths.{path-valuations}
use Rattle.findings.specs.Asked.{asked}
use Rattle.findings.specs.Columns.{AreColumns, HasColumns, ShowColumns, ShowsColumns}
use Rattle.findings.specs.Entries.{AreEntries, AreFindings}
use Rattle.findings.specs.declared.entry.FindingEntry.{FindingEntry}

-- the first name of a signal is one of the names
pub first-is : (P : Name → Type 0) (names : List Name) (signal : ℕ) (name : Name) → All P names → Some name ≡ first_name names signal → P name
first-is P names signal name all is =
    let at : slice_get names (position_or_len (λ n. n.signal == signal) names) ≡ Some name = sym (is ∙ find_at (λ n. n.signal == signal) names) in
    let place = position_or_len (λ n. n.signal == signal) names in
    subst P (get_or_from_slice_get names place name name at) (All-get_or P names place name (slice_get_within names place name at) all)

columns-within : (design : Design) (columns : List Name) → IsSound design → AreColumns design columns → All (λ column. column.signal < design.signals) columns
columns-within design columns sound are place column lt =
    (first-is (NamesBit design.signals) design.names (get_or (free_of design) place 0) (get_or columns place column) sound.names is).signal
  where
    long : length columns ≡ length (free_of design)
    long = sym (length-map columns (λ (c : Name). Some c)) ∙ ap length are ∙ length-map (free_of design) (first_name design.names)

    is : Some (get_or columns place column) ≡ first_name design.names (get_or (free_of design) place 0)
    is = sym (get_or-map (λ (c : Name). Some c) columns place column None lt)
        ∙ ap (λ (os : List (Option Name)). get_or os place None) are
        ∙ get_or-map (first_name design.names) (free_of design) place 0 None (omega (arith, long))

module _ (design : Design) (unit : List Directive) (options : Options) (wanted : Option Form) (columns : List Name) (within : All (λ column. column.signal < design.signals) columns) where
  has-columns : (valuation : List Bool) → IsValuation design valuation → HasColumns columns valuation
  has-columns valuation is place column lt = subst (λ n. (get_or columns place column).signal < n) (sym is.size) (within place column lt)

  run-has : (run : Run) → IsRun design run → All (HasColumns columns) run.stem × All (HasColumns columns) run.loop_part
  run-has run is =
      let made = run-made design run is in (
        (λ place other lt. has-columns (get_or run.stem place other) (made.stem place other lt)),
        (λ place other lt. has-columns (get_or run.loop_part place other) (made.looped place other lt)),
      )

  finding-shows : (directive : Directive) (finding : Finding) → IsFinding design unit directive options finding → ShowsColumns columns finding
  finding-shows directive (findings.Violated run) is = run-has run is.is.is
  finding-shows directive (findings.Held path end) is =
      λ place other lt. has-columns (get_or path place other) (path-valuations design path is.path_is.is place other lt)
  finding-shows directive (findings.Proved _) is = tt
  finding-shows directive (findings.ProvedReach _) is = tt
  finding-shows directive (findings.Depth _) is = tt
  finding-shows directive (findings.DepthReach _ _) is = tt
  finding-shows directive (findings.Steps _ _) is = tt
  finding-shows directive (findings.LogFull _ _) is = tt
  finding-shows directive (findings.Large _) is = tt

  entries-show : (ds : List Directive) (es : List FindingEntry) → AreEntries design unit options wanted ds es → ShowColumns columns es
  entries-show [] [] h = All-nil (λ e. ShowsColumns columns e.finding)
  entries-show [] (_ ∷ _) h = absurd h
  entries-show (_ ∷ _) [] h = absurd h
  entries-show (a ∷ ds) (e ∷ es) h =
      All-cons (λ e. ShowsColumns columns e.finding) e es (finding-shows a e.finding h.0.finding) (entries-show ds es h.1)

pub all-shown : (design : Design) (unit : List Directive) (options : Options) (covers : Bool) (wanted : Option Form) (columns : List Name) (entries : List FindingEntry)
    → IsSound design → AreColumns design columns → AreFindings design unit options covers wanted entries → ShowColumns columns entries
all-shown design unit options covers wanted columns entries sound are h =
    entries-show design unit options wanted columns (columns-within design columns sound are) (asked covers unit) entries h

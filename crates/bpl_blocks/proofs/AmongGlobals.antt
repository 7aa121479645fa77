-- The clauses of the globals that names reach, by sets of names.
use Rattle.std.specs.Prelude.{◌≡◌, refl, ℕ, ◌+◌, ◌<◌, length, Bool, true, false, cond, List, [], ◌∷◌, ◌++◌, map, filter_map, Option, Some, None, option_to_list}
use Rattle.std.specs.List.{list_any, cons_option}
use Rattle.std.proofs.Common.{sym, ap, ◌∙◌, append_assoc, get_or, drop}
use Rattle.std.proofs.lemmas.List.{map-append}
use Rattle.logic_core.specs.Tree.{Tree}
use Rattle.flow_core.specs.declared.command.Command.{Command}
use Rattle.bpl_model.specs.Module.{Name, Global, Module}
use Rattle.bpl_model.specs.Reach.{is_named, positions, globals_among}
use Rattle.bpl_model.specs.Names.{with_names}
use Rattle.bpl_model.specs.Walk.{text_at}
use Rattle.bpl_model.proofs.NamedAt.{named_at}
use Rattle.bpl_blocks.proofs.AssumedClauses.{next_is}
use Rattle.bpl_blocks.specs.Blocks.{assume_all}
use Rattle.bpl_blocks.specs.Among.{now_reached, clauses_among}

first_clause : (g : Global) (gs : List Global) → filter_map (λ (h : Global). h.clause) (g ∷ gs) ≡ option_to_list g.clause ++ filter_map (λ (h : Global). h.clause) gs
first_clause g gs = by g.clause
  where
    by : (o : Option Tree) → cons_option o (filter_map (λ (h : Global). h.clause) gs) ≡ option_to_list o ++ filter_map (λ (h : Global). h.clause) gs
    by None = refl
    by (Some E) = refl

pub clauses_are : (m : Module) (reached : List ℕ) (before : Bool) (gs : List Global)
    → clauses_among (with_names [] (map (λ d. (text_at m.texts d).name) (positions m))) (with_names [] (map (λ d. (text_at m.texts d).name) reached)) before gs
    ≡ filter_map (λ (g : Global). g.clause) (globals_among m reached before gs)
clauses_are m reached before [] = refl
clauses_are m reached before (g ∷ gs) =
    let declared : List Name = with_names [] (map (λ d. (text_at m.texts d).name) (positions m)) in
    let those : List Name = with_names [] (map (λ d. (text_at m.texts d).name) reached) in
    let same : now_reached declared those before g.name ≡ cond (list_any (is_named m g.name) (positions m)) (list_any (is_named m g.name) reached) before =
    λ i. cond (named_at m g.name (positions m) i) (named_at m g.name reached i) before in
    (λ i. cond (same i) (option_to_list g.clause) [] ++ clauses_among declared those (same i) gs)
    ∙ by (cond (list_any (is_named m g.name) (positions m)) (list_any (is_named m g.name) reached) before) (λ b. clauses_are m reached b gs)
  where
    by : (b : Bool) → ((c : Bool) → clauses_among (with_names [] (map (λ d. (text_at m.texts d).name) (positions m))) (with_names [] (map (λ d. (text_at m.texts d).name) reached)) c gs ≡ filter_map (λ (h : Global). h.clause) (globals_among m reached c gs))
        → cond b (option_to_list g.clause) [] ++ clauses_among (with_names [] (map (λ d. (text_at m.texts d).name) (positions m))) (with_names [] (map (λ d. (text_at m.texts d).name) reached)) b gs
        ≡ filter_map (λ (h : Global). h.clause) (cond b (g ∷ globals_among m reached b gs) (globals_among m reached b gs))
    by true h = ap (λ Es. option_to_list g.clause ++ Es) (h true) ∙ sym (first_clause g (globals_among m reached true gs))
    by false h = h false

-- what is assumed of a clause and of those behind it
pub assumed_behind : (cs : List Command) (Es Fs : List Tree) → (cs ++ assume_all Es) ++ assume_all Fs ≡ cs ++ assume_all (Es ++ Fs)
assumed_behind cs Es Fs = append_assoc cs (assume_all Es) (assume_all Fs) ∙ ap (λ ds. cs ++ ds) (sym (map-append _ Es Fs))

-- one more global
pub among_more : (declared reached : List Name) (before : Bool) (gs : List Global) (i : ℕ) (g : Global) (cs : List Command) → i < length gs → g ≡ get_or gs i g
    → cs ++ assume_all (clauses_among declared reached before (drop i gs))
    ≡ (cs ++ assume_all (cond (now_reached declared reached before g.name) (option_to_list g.clause) [])) ++ assume_all (clauses_among declared reached (now_reached declared reached before g.name) (drop (i + 1) gs))
among_more declared reached before gs i g cs lt is =
    ap (λ hs. cs ++ assume_all (clauses_among declared reached before hs)) (next_is gs i g lt is)
    ∙ sym (assumed_behind cs (cond (now_reached declared reached before g.name) (option_to_list g.clause) []) (clauses_among declared reached (now_reached declared reached before g.name) (drop (i + 1) gs)))

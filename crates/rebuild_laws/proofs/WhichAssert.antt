-- Which commands of passive blocks assert, and the obligations by it.
use Rattle.std.specs.Prelude.{◌≡◌, refl, ℕ, zero, suc, ◌+◌, Bool, true, false, List, [], ◌∷◌, ◌++◌, map, length}
use Rattle.std.proofs.Common.{ap, sym, ◌∙◌}
use Rattle.std.proofs.lemmas.List.{map-append, length-map, append-nil, append_assoc}
use Rattle.logic_core.specs.Tree.{Tree, free, equal}
use Rattle.logic_core.specs.Def.{Def, Obligation}
use Rattle.logic_core.specs.Renamed.{both_renamed}
use Rattle.flow_core.specs.declared.command.Command.{Command}
use Rattle.flow_core.specs.declared.command.Command.TheVariants.{Assert, Assume, Assign, Havoc}
use Rattle.passive_form.specs.declared.made.Made.{Made}
use Rattle.passive_form.specs.declared.done.Done.{Done}
use Rattle.passive_form.specs.declared.passive.Passive.{Passive}
use Rattle.passive_form.specs.Incarnations.{incarnation, read, anew, also, assigned, havocked, perform, perform_all, equations_for}
use Rattle.vc_build.specs.declared.goal.Goal.{Goal}
use Rattle.vc_build.specs.Goals.{obligation_at, goals_in}
use Rattle.rebuild_laws.proofs.Commands.{AlikeCommand, asserted, assumed_so, set_all, any_values, AlikeCommands, no_more, one_more}

abbrev pub asserts_so : Command → Bool
asserts_so (Assert m E) = true
asserts_so (Assume E) = false
asserts_so (Assign ps) = false
asserts_so (Havoc xs) = false

abbrev pub kinds : List Command → List Bool
kinds cs = map asserts_so cs

abbrev falses : ℕ → List Bool
falses zero = []
falses (suc n) = false ∷ falses n

kinds_also : (s : Made) (c : Command) → kinds (also s c).commands ≡ kinds s.commands ++ asserts_so c ∷ []
kinds_also s c = map-append asserts_so s.commands (c ∷ [])

kinds_assigned : (ps : List (ℕ × Tree)) (s : Made) → kinds (assigned s ps).commands ≡ kinds s.commands ++ falses (length ps)
kinds_assigned [] s = sym (append-nil (kinds s.commands))
kinds_assigned (p ∷ ps) s =
    kinds_assigned ps (also (anew s p.0) (Assume (equal (free (length s.sorts)) p.1)))
    ∙ ap (λ ks. ks ++ falses (length ps)) (kinds_also (anew s p.0) (Assume (equal (free (length s.sorts)) p.1)))
    ∙ append_assoc (kinds s.commands) (false ∷ []) (falses (length ps))

havocked_commands : (xs : List ℕ) (s : Made) → (havocked s xs).commands ≡ s.commands
havocked_commands [] s = refl
havocked_commands (x ∷ xs) s = havocked_commands xs (anew s x)

module _ (new_def new_var : ℕ → ℕ) (D V : ℕ → Type 0) where
  perform_kinds : (c d : Command) → AlikeCommand new_def new_var D V c d → (s t : Made) → kinds t.commands ≡ kinds s.commands → kinds (perform t d).commands ≡ kinds (perform s c).commands
  perform_kinds c d (asserted h) s t e = kinds_also t _ ∙ ap (λ ks. ks ++ true ∷ []) e ∙ sym (kinds_also s _)
  perform_kinds c d (assumed_so h) s t e = kinds_also t _ ∙ ap (λ ks. ks ++ false ∷ []) e ∙ sym (kinds_also s _)
  perform_kinds c d (set_all {ps = ps} h) s t e =
      let mine = map {B = ℕ × Tree} (λ p. (p.0, read s.present p.1)) ps in
      let renewed = map {B = ℕ × Tree} (λ p. (new_var p.0, both_renamed new_def new_var p.1)) ps in
      let theirs = map {B = ℕ × Tree} (λ p. (p.0, read t.present p.1)) renewed in
      let long : length theirs ≡ length mine
      = length-map renewed (λ p. (p.0, read t.present p.1)) ∙ length-map ps (λ p. (new_var p.0, both_renamed new_def new_var p.1)) ∙ sym (length-map ps (λ p. (p.0, read s.present p.1))) in
      kinds_assigned theirs t ∙ (λ i. e i ++ falses (long i)) ∙ sym (kinds_assigned mine s)
  perform_kinds c d (any_values {vs = vs} h) s t e = ap kinds (havocked_commands (map new_var vs) t) ∙ e ∙ sym (ap kinds (havocked_commands vs s))

  pub all_kinds : (cs ds : List Command) → AlikeCommands new_def new_var D V cs ds → (s t : Made) → kinds t.commands ≡ kinds s.commands → kinds (perform_all t ds).commands ≡ kinds (perform_all s cs).commands
  all_kinds _ _ no_more s t e = e
  all_kinds _ _ (one_more {c = c} {d = d} {cs = cs} {ds = ds} a rest) s t e = all_kinds cs ds rest (perform s c) (perform t d) (perform_kinds c d a s t e)

  pub block_kinds : (vs ws : List ℕ) (cs ds : List Command) → AlikeCommands new_def new_var D V cs ds → (s t : Made) → kinds t.commands ≡ kinds s.commands
      → kinds (perform_all (havocked t ws) ds).commands ≡ kinds (perform_all (havocked s vs) cs).commands
  block_kinds vs ws cs ds a s t e = all_kinds cs ds a (havocked s vs) (havocked t ws) (ap kinds (havocked_commands ws t) ∙ e ∙ sym (ap kinds (havocked_commands vs s)))

-- the equations for a join assume
all_assume : (f : ℕ × ℕ → Tree) (ps : List (ℕ × ℕ)) → kinds (map (λ p. Assume (f p)) ps) ≡ falses (length ps)
all_assume f [] = refl
all_assume f (p ∷ ps) = ap (λ ks. false ∷ ks) (all_assume f ps)

pub equations_kinds : (d e : Done) (j k : Done) → length k.joined ≡ length j.joined → kinds (equations_for e k) ≡ kinds (equations_for d j)
equations_kinds d e j k long =
    all_assume (λ p. equal (free p.1) (free (incarnation e.last p.0))) k.joined ∙ ap falses long
    ∙ sym (all_assume (λ p. equal (free p.1) (free (incarnation d.last p.0))) j.joined)

-- the obligations of the places that assert
abbrev obligations_by : (ℕ → Obligation) → ℕ → List Bool → List Obligation
obligations_by f at [] = []
obligations_by f at (true ∷ ks) = f at ∷ obligations_by f (at + 1) ks
obligations_by f at (false ∷ ks) = obligations_by f (at + 1) ks

by_kinds : (g : Passive) (defs : List Def) (axioms : List Tree) (k at : ℕ) (cs : List Command) → map (λ (o : Goal). o.obligation) (goals_in g defs axioms k at cs) ≡ obligations_by (obligation_at g defs axioms k) at (kinds cs)
by_kinds g defs axioms k at [] = refl
by_kinds g defs axioms k at (Assert m E ∷ cs) = ap (λ os. obligation_at g defs axioms k at ∷ os) (by_kinds g defs axioms k (at + 1) cs)
by_kinds g defs axioms k at (Assume E ∷ cs) = by_kinds g defs axioms k (at + 1) cs
by_kinds g defs axioms k at (Assign ps ∷ cs) = by_kinds g defs axioms k (at + 1) cs
by_kinds g defs axioms k at (Havoc xs ∷ cs) = by_kinds g defs axioms k (at + 1) cs

-- where places assert alike and have equal obligations
pub obligations_alike : (g h : Passive) (ds es : List Def) (xs ys : List Tree) (k : ℕ) → ((at : ℕ) → obligation_at h es ys k at ≡ obligation_at g ds xs k at) → (cs bs : List Command) → kinds bs ≡ kinds cs
    → map (λ (o : Goal). o.obligation) (goals_in h es ys k 0 bs) ≡ map (λ (o : Goal). o.obligation) (goals_in g ds xs k 0 cs)
obligations_alike g h ds es xs ys k same cs bs e = by_kinds h es ys k 0 bs ∙ (λ i. obligations_by (λ at. same at i) 0 (e i)) ∙ sym (by_kinds g ds xs k 0 cs)

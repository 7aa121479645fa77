-- The texts of declarations at positions, one after another.
use Rattle.std.specs.Prelude.{◌≡◌, refl, ℕ, ◌+◌, ◌<◌, ◌==◌, Bool, true, false, not, cond, List, [], ◌∷◌, ◌++◌, length, filter, flat_map}
use Rattle.std.proofs.Common.{ap, sym, ◌∙◌, drop, get_or}
use Rattle.std.proofs.lemmas.List.{append_assoc, at_drop_more, nil_from_length}
use Rattle.std.specs.List.{list_all}
use Rattle.std.proofs.lemmas.Bool.{and_parts, eqb-true}
use Rattle.bpl_model.specs.Module.{DeclText, Module, Proc}
use Rattle.bpl_model.specs.Reach.{among, own_positions, reach_on, reached_by}
use Rattle.bpl_model.specs.Walk.{text_at}

abbrev others : List ℕ → List ℕ → List ℕ
others own ds = filter (λ e. not (among own e)) ds

abbrev contracts : List DeclText → List ℕ → List ℕ
contracts ts ds = flat_map (λ e. (text_at ts e).contract) ds

append_nil : (xs : List ℕ) → xs ++ [] ≡ xs
append_nil [] = refl
append_nil (x ∷ xs) = ap (λ ys. x ∷ ys) (append_nil xs)

-- the text of the first, unless it is an own one, and then those of the others
pub contracts_next : (ts : List DeclText) (own : List ℕ) (d : ℕ) (ds : List ℕ)
    → flat_map (λ e. (text_at ts e).contract) (filter (λ e. not (among own e)) (d ∷ ds)) ≡ flat_map (λ e. (text_at ts e).contract) (filter (λ e. not (among own e)) (d ∷ [])) ++ flat_map (λ e. (text_at ts e).contract) (filter (λ e. not (among own e)) ds)
contracts_next ts own d ds = by (not (among own d))
  where
    by : (b : Bool) → contracts ts (cond b (d ∷ others own ds) (others own ds)) ≡ contracts ts (cond b (d ∷ []) []) ++ contracts ts (others own ds)
    by true = ap (λ bytes. bytes ++ contracts ts (others own ds)) (sym (append_nil (text_at ts d).contract))
    by false = refl

-- declarations none of which leads on
none_lead : (ts : List DeclText) (ds : List ℕ) → list_all (λ d. length (text_at ts d).leads == 0) ds ≡ true → flat_map (λ d. (text_at ts d).leads) ds ≡ []
none_lead ts [] h = refl
none_lead ts (d ∷ ds) h =
    let both = and_parts (length (text_at ts d).leads == 0) (list_all (λ e. length (text_at ts e).leads == 0) ds) h in
    let here : (text_at ts d).leads ≡ [] = nil_from_length (text_at ts d).leads (eqb-true (length (text_at ts d).leads) 0 both.0) in
    λ i. here i ++ none_lead ts ds both.1 i

-- what a procedure reaches whose own declarations lead nowhere
pub always_reached : (m : Module) (p : Proc) (own found : List ℕ) → own ≡ own_positions m p → list_all (λ d. length (text_at m.texts d).leads == 0) own ≡ true → found ≡ reach_on m (length m.texts + 1) [] → found ≡ reached_by m p
always_reached m p own found is none e = e ∙ ap (λ ds. reach_on m (length m.texts + 1) ds) (sym (none_lead m.texts own none) ∙ ap (λ ds. flat_map (λ d. (text_at m.texts d).leads) ds) is)

-- those of the next declaration have joined those before
pub contracts_step : (ts : List DeclText) (own ds : List ℕ) (i : ℕ) (before after all : List ℕ) → i < length ds
    → before ++ flat_map (λ e. (text_at ts e).contract) (filter (λ e. not (among own e)) (drop i ds)) ≡ all
    → after ≡ before ++ flat_map (λ e. (text_at ts e).contract) (filter (λ e. not (among own e)) (get_or ds i 0 ∷ []))
    → after ++ flat_map (λ e. (text_at ts e).contract) (filter (λ e. not (among own e)) (drop (i + 1) ds)) ≡ all
contracts_step ts own ds i before after all lt so_far joined =
    let first = contracts ts (others own (get_or ds i 0 ∷ [])) in
    let rest = contracts ts (others own (drop (i + 1) ds)) in
    let next : contracts ts (others own (drop i ds)) ≡ first ++ rest = at_drop_more (λ es. contracts ts (others own es)) ds i 0 lt ∙ contracts_next ts own (get_or ds i 0) (drop (i + 1) ds) in
    ap (λ xs. xs ++ rest) joined ∙ append_assoc before first rest ∙ ap (λ xs. before ++ xs) (sym next) ∙ so_far

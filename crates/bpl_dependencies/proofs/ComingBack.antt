-- Which names lead to themselves.
use Rattle.std.proofs.Common.{◌≡◌, refl, sym, ap, ◌∙◌, ℕ, zero, suc, ◌+◌, true, false, List, length, slice_get, Some, None, bytes_eq}
use Rattle.std.specs.List.{list_any}
use Rattle.bpl_scopes.specs.Positions.{or_other}
use Rattle.bpl_scopes.specs.Scopes.{Text, Table, entity_of}
use Rattle.bpl_scopes.specs.Functions.{next_names, leads, leads_to_itself}
use Rattle.bpl_scopes.proofs.FirstAt.{entity_at, entity_first}
use Rattle.bpl_dependencies.specs.Reach.{first_position, AreEdges, leads_at_once}
use Rattle.bpl_dependencies.specs.Rounds.{row, rounds_of, comes_back}
use Rattle.bpl_dependencies.specs.Ranks.{rank_of, falls, NeverFall}
use Rattle.bpl_dependencies.proofs.Reaching.{all_reached, edges_to, own_flag}
use Rattle.bpl_dependencies.proofs.NeverFalling.{no_way_back}

pub comes_back_is : (t : Table) (m : Text) (at : ℕ) (es : List (List ℕ)) → AreEdges t es → first_position t m ≡ Some at → comes_back es at ≡ leads_to_itself t m
comes_back_is t m at es h there =
    ap (λ fs. or_other (slice_get (rounds_of fs es (length fs)) at) false) (edges_to t m at es h there)
    ∙ ap (λ fs. or_other (slice_get fs at) false) (all_reached t (leads_at_once t m) es h)
    ∙ ap (λ o. or_other o false) (own_flag t m at there)

no_way : (t : Table) (k : ℕ) (n m : Text) → entity_of t n ≡ None → leads t k n m ≡ false
no_way t zero n m h = refl
no_way t (suc k) n m h = ap (λ e. list_any (λ c. elim (bytes_eq c m) [ true ↦ true | false ↦ leads t k c m ]) (next_names t e)) h

-- a name without an entry leads nowhere
pub absent_leads : (t : Table) (n : Text) → first_position t n ≡ None → leads_to_itself t n ≡ false
unfolding leads_to_itself
absent_leads t n h = no_way t (length t) n n (entity_first t n ∙ ap (entity_at t) h)

-- a name whose edges all lead to higher ranks doesn't lead to itself
pub higher_leads : (t : Table) (m : Text) (at : ℕ) (es : List (List ℕ)) (rs : List ℕ) → AreEdges t es → first_position t m ≡ Some at → NeverFall rs es → falls rs (rank_of rs at + 1) (row es at) ≡ false → leads_to_itself t m ≡ false
higher_leads t m at es rs h there never above = sym (comes_back_is t m at es h there) ∙ no_way_back rs es at never above

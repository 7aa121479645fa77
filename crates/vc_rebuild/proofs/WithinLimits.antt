-- Goals whose number and whose bytes are within the limits exceed none.
use Rattle.std.specs.Prelude.{◌≡◌, refl, ℕ, ◌+◌, ◌-◌, ◌^◌, ◌<◌, ◌≤◌, nat_lt, nat_le, min, Bool, true, false, ◌&&◌, cond, List, [], ◌∷◌, ◌++◌, map, length, sum, None, Some}
use Rattle.std.proofs.Common.{ap, sym, arith, ◌∙◌}
use Rattle.std.proofs.lemmas.Bool.{leb-true}
use Rattle.std.proofs.lemmas.Bool.Decides.{nat_tests}
use Rattle.std.proofs.lemmas.List.{append_assoc, length-append, length-map}
use Rattle.std.proofs.lemmas.List.Sums.{sum_by-cons}
use Rattle.logic_core.proofs.Booleans.{both_true}
use Rattle.logic_core.specs.Size.{capped}
use Rattle.obligation_text.specs.Text.{obligation_text}
use Rattle.vc_build.specs.declared.goal.Goal.{Goal}
use Rattle.vc_build.specs.declared.fault.Measure.TheVariants.{Count, Bytes}
use Rattle.vc_build.specs.Large.{count_limit, byte_limit, large_after, sizes_of, large}
use Rattle.vc_build.specs.Rebuild.{BuiltProc}
use Rattle.vc_rebuild.specs.Kept.{all_goals}
use Rattle.vc_rebuild.specs.Inside.{each_obligation, SameObligations}
use Rattle.vc_rebuild.specs.Within.{are_within}

not_above : (a b : ℕ) → b ≤ a → nat_lt a b ≡ false
not_above a b h = grind (arith, nat_tests, h)

none_after : (n b : ℕ) (sizes : List ℕ) → n + length sizes ≤ count_limit → b + sum sizes ≤ byte_limit → large_after n b sizes ≡ None
none_after n b [] p q = refl
none_after n b (size ∷ sizes) p q =
    let total : sum (size ∷ sizes) ≡ size + sum sizes = sum_by-cons (λ k. k) size sizes in
    let count = not_above count_limit (n + 1) (omega (p, arith)) in
    let bytes = not_above byte_limit (b + size) (omega (q, total, arith)) in
    (λ i. cond (count i) (Some (Count, n + 1)) (cond (bytes i) (Some (Bytes, b + size)) (large_after (n + 1) (b + size) sizes)))
    ∙ none_after (n + 1) (b + size) sizes (omega (p, arith)) (omega (q, total, arith))

pub none_large : (gs : List Goal) → length gs ≤ count_limit → sum (sizes_of gs) ≤ byte_limit → large gs ≡ None
none_large gs p q = none_after 0 0 (sizes_of gs) (omega (p, length-map gs (λ (g : Goal). length (obligation_text g.obligation)), arith)) (omega (q, arith))

-- the sizes of goals one after another
pub size_first : (g : Goal) (gs : List Goal) → sum (sizes_of (g ∷ gs)) ≡ length (obligation_text g.obligation) + sum (sizes_of gs)
size_first g gs = sum_by-cons (λ k. k) (length (obligation_text g.obligation)) (sizes_of gs)

pub sizes_both : (gs hs : List Goal) → sum (sizes_of (gs ++ hs)) ≡ sum (sizes_of gs) + sum (sizes_of hs)
sizes_both [] hs = let e : sum (sizes_of hs) ≡ 0 + sum (sizes_of hs) = omega arith in e
sizes_both (g ∷ gs) hs = omega (size_first g (gs ++ hs), size_first g gs, sizes_both gs hs, arith)

-- what is left of a limit
left_of : (n c most : ℕ) → c ≤ most → nat_le n (most - c) ≡ nat_le (c + n) most
left_of n c most h = grind (arith, nat_tests, h)

left_of_capped : (x c most : ℕ) → c ≤ most → most < 2 ^ 64 - 1 → nat_le (capped x) (most - c) ≡ nat_le (c + x) most
left_of_capped x c most h k = grind (arith, nat_tests, h, k)

pub room_for : (gs hs : List Goal) (count bytes n b : ℕ) → count ≡ length gs → bytes ≡ sum (sizes_of gs) → count ≤ count_limit → bytes ≤ byte_limit → n ≡ length hs → b ≡ capped (sum (sizes_of hs))
    → (nat_le n (count_limit - count) && nat_le b (byte_limit - bytes)) ≡ are_within (gs ++ hs)
room_for gs hs count bytes n b c s few small counted summed =
    let many : count + n ≡ length (gs ++ hs) = omega (c, counted, length-append gs hs, arith) in
    let total : bytes + sum (sizes_of hs) ≡ sum (sizes_of (gs ++ hs)) = omega (s, sizes_both gs hs, arith) in
    let first = left_of n count count_limit few ∙ ap (λ k. nat_le k count_limit) many in
    let second = ap (λ k. nat_le k (byte_limit - bytes)) summed ∙ left_of_capped (sum (sizes_of hs)) bytes byte_limit small (omega arith) ∙ ap (λ k. nat_le k byte_limit) total in
    λ i. first i && second i

-- goals of the same obligations have the same sizes
sizes_by : (gs : List Goal) → sizes_of gs ≡ map (λ o. length (obligation_text o)) (each_obligation gs)
sizes_by [] = refl
sizes_by (g ∷ gs) = ap (λ ns. length (obligation_text g.obligation) ∷ ns) (sizes_by gs)

pub sizes_same : (gs hs : List Goal) → SameObligations gs hs → sizes_of gs ≡ sizes_of hs
sizes_same gs hs same = sizes_by gs ∙ ap (map (λ o. length (obligation_text o))) same ∙ sym (sizes_by hs)

pub append_nil : (gs : List Goal) → gs ++ [] ≡ gs
append_nil [] = refl
append_nil (g ∷ gs) = ap (λ hs. g ∷ hs) (append_nil gs)

goals_pushed : (bs : List BuiltProc) (p : BuiltProc) → all_goals (bs ++ p ∷ []) ≡ all_goals bs ++ p.goals
goals_pushed [] p = append_nil p.goals
goals_pushed (b ∷ bs) p = ap (λ gs. b.goals ++ gs) (goals_pushed bs p) ∙ sym (append_assoc b.goals (all_goals bs) p.goals)

-- with one procedure more, for whose goals there is room
pub pushed : (bs all : List BuiltProc) (p : BuiltProc) (count bytes n b many total : ℕ) → count ≡ length (all_goals bs) → bytes ≡ sum (sizes_of (all_goals bs)) → n ≡ length p.goals → b ≡ capped (sum (sizes_of p.goals))
    → are_within (all_goals bs ++ p.goals) ≡ true → all ≡ bs ++ p ∷ [] → many ≡ min (count + n) (2 ^ 64 - 1) → total ≡ min (bytes + b) (2 ^ 64 - 1)
    → (many ≡ length (all_goals all)) × (total ≡ sum (sizes_of (all_goals all))) × (many ≤ count_limit) × (total ≤ byte_limit)
pushed bs all p count bytes n b many total c s counted summed within items m t =
    let gs = all_goals bs ++ p.goals in
    let tests = both_true (nat_le (length gs) count_limit) (nat_le (sum (sizes_of gs)) byte_limit) within in
    let few : length gs ≤ count_limit = leb-true (length gs) count_limit tests.0 in
    let small : sum (sizes_of gs) ≤ byte_limit = leb-true (sum (sizes_of gs)) byte_limit tests.1 in
    let same : all_goals all ≡ gs = ap all_goals items ∙ goals_pushed bs p in
    let length_same : length (all_goals all) ≡ length gs = ap length same in
    let sum_same : sum (sizes_of (all_goals all)) ≡ sum (sizes_of gs) = ap (λ hs. sum (sizes_of hs)) same in
    let lengths : length gs ≡ length (all_goals bs) + length p.goals = length-append (all_goals bs) p.goals in
    let sums = sizes_both (all_goals bs) p.goals in
    (omega (arith, c, counted, m, few, length_same, lengths), omega (arith, s, summed, t, small, sum_same, sums), omega (arith, c, counted, m, few, lengths), omega (arith, s, summed, t, small, sums))

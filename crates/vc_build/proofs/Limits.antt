-- The limits on goals, goal after goal.
use Rattle.std.specs.Prelude.{◌≡◌, refl, ℕ, ◌+◌, ◌<◌, ◌≤◌, nat_lt, Bool, true, false, cond, Option, Some, None, Result, Ok, Err, IfErr, IsErrAnd, List, [], ◌∷◌, ◌++◌, length, sum}
use Rattle.std.proofs.Common.{arith, ap, ◌∙◌, sym, subst}
use Rattle.std.proofs.lemmas.List.{length-map, length-append, append_assoc}
use Rattle.std.proofs.lemmas.List.Sums.{sum_by-cons, sum_by_push}
use Rattle.obligation_text.specs.Text.{obligation_text}
use Rattle.vc_build.specs.declared.goal.Goal.{Goal}
use Rattle.vc_build.specs.declared.fault.Measure.{Measure}
use Rattle.vc_build.specs.declared.fault.Measure.TheVariants.{Count, Bytes}
use Rattle.vc_build.specs.declared.fault.BuildFault.{BuildFault}
use Rattle.vc_build.specs.declared.fault.BuildFault.TheVariants.{Large, Memory}
use Rattle.vc_build.specs.Large.{count_limit, byte_limit, large_after, sizes_of, large}
use Rattle.vc_build.specs.Exceeds.{IsFaultBy, IsFaultOf}

-- where it is nothing, nothing was found after it
nothing_after : (s t : Bool) (p q : Measure × ℕ) (rest other : Option (Measure × ℕ)) → cond s (Some p) (cond t (Some q) rest) ≡ None → cond s (Some p) (cond t (Some q) other) ≡ other
nothing_after true t p q rest other h = let c : Some p ≡ None = h in absurd cc
nothing_after false true p q rest other h = let c : Some q ≡ None = h in absurd cc
nothing_after false false p q rest other h = refl

rest_is_none : (s t : Bool) (p q : Measure × ℕ) (rest : Option (Measure × ℕ)) → cond s (Some p) (cond t (Some q) rest) ≡ None → rest ≡ None
rest_is_none true t p q rest h = let c : Some p ≡ None = h in absurd cc
rest_is_none false true p q rest h = let c : Some q ≡ None = h in absurd cc
rest_is_none false false p q rest h = h

-- where something was found, it is found where more comes after
stays_found : (s t : Bool) (p q r : Measure × ℕ) (rest other : Option (Measure × ℕ)) → (rest ≡ Some r → other ≡ Some r) → cond s (Some p) (cond t (Some q) rest) ≡ Some r → cond s (Some p) (cond t (Some q) other) ≡ Some r
stays_found true t p q r rest other f h = h
stays_found false true p q r rest other f h = h
stays_found false false p q r rest other f h = f h

at_numbers : (n m b c : ℕ) (ys : List ℕ) → n ≡ m → b ≡ c → large_after n b ys ≡ large_after m c ys
at_numbers n m b c ys e f = λ i. large_after (e i) (f i) ys

large_more : (n b : ℕ) (xs ys : List ℕ) → large_after n b xs ≡ None → large_after n b (xs ++ ys) ≡ large_after (n + length xs) (b + sum xs) ys
large_more n b [] ys h = at_numbers n (n + 0) b (b + 0) ys (omega arith) (omega arith)
large_more n b (x ∷ xs) ys h =
    let here = nothing_after (nat_lt count_limit (n + 1)) (nat_lt byte_limit (b + x)) (Count, n + 1) (Bytes, b + x) (large_after (n + 1) (b + x) xs) (large_after (n + 1) (b + x) (xs ++ ys)) h in
    let rest = rest_is_none (nat_lt count_limit (n + 1)) (nat_lt byte_limit (b + x)) (Count, n + 1) (Bytes, b + x) (large_after (n + 1) (b + x) xs) h in
    let all : sum (x ∷ xs) ≡ x + sum xs = sum_by-cons (λ k. k) x xs in
    here ∙ large_more (n + 1) (b + x) xs ys rest
    ∙ at_numbers (n + 1 + length xs) (n + length (x ∷ xs)) (b + x + sum xs) (b + sum (x ∷ xs)) ys (omega arith) (omega (all, arith))

large_stays : (n b : ℕ) (xs ys : List ℕ) (r : Measure × ℕ) → large_after n b xs ≡ Some r → large_after n b (xs ++ ys) ≡ Some r
large_stays n b [] ys r h = let c : None ≡ Some r = h in absurd cc
large_stays n b (x ∷ xs) ys r h = stays_found (nat_lt count_limit (n + 1)) (nat_lt byte_limit (b + x)) (Count, n + 1) (Bytes, b + x) r (large_after (n + 1) (b + x) xs) (large_after (n + 1) (b + x) (xs ++ ys))
    (large_stays (n + 1) (b + x) xs ys r) h

sizes_more : (gs hs : List Goal) → sizes_of (gs ++ hs) ≡ sizes_of gs ++ sizes_of hs
sizes_more [] hs = refl
sizes_more (g ∷ gs) hs = ap (λ ss. length (obligation_text g.obligation) ∷ ss) (sizes_more gs hs)

-- with one goal more: the bytes, what is found, and a fault that says it
pub bytes_more : (gs : List Goal) (g : Goal) → sum (sizes_of (gs ++ g ∷ [])) ≡ sum (sizes_of gs) + length (obligation_text g.obligation)
bytes_more gs g = ap sum (sizes_more gs (g ∷ [])) ∙ sum_by_push (λ n. n) (sizes_of gs) (length (obligation_text g.obligation))

pub found_more : (gs : List Goal) (g : Goal) → large gs ≡ None → large (gs ++ g ∷ []) ≡ large_after (length gs) (sum (sizes_of gs)) (length (obligation_text g.obligation) ∷ [])
found_more gs g h =
    ap (large_after 0 0) (sizes_more gs (g ∷ []))
    ∙ large_more 0 0 (sizes_of gs) (length (obligation_text g.obligation) ∷ []) h
    ∙ at_numbers (0 + length (sizes_of gs)) (length gs) (0 + sum (sizes_of gs)) (sum (sizes_of gs)) (length (obligation_text g.obligation) ∷ []) (omega (length-map gs (λ (x : Goal). length (obligation_text x.obligation)), arith)) (omega arith)

pub fault_at : (gs : List Goal) (g : Goal) (n b size : ℕ) (e : BuildFault) → large gs ≡ None → n ≡ length gs → b ≡ sum (sizes_of gs) → size ≡ length (obligation_text g.obligation) → IsFaultBy (large_after n b (size ∷ [])) e → IsFaultOf (gs ++ g ∷ []) e
fault_at gs g n b size e h count bytes own f =
    subst (λ found. IsFaultBy found e) ((λ i. large_after (count i) (bytes i) (own i ∷ [])) ∙ sym (found_more gs g h)) f

pub still_within : (gs : List Goal) (g : Goal) (n b size : ℕ) → large gs ≡ None → n ≡ length gs → b ≡ sum (sizes_of gs) → size ≡ length (obligation_text g.obligation) → large_after n b (size ∷ []) ≡ None → large (gs ++ g ∷ []) ≡ None
still_within gs g n b size h count bytes own f = found_more gs g h ∙ sym (λ i. large_after (count i) (bytes i) (own i ∷ [])) ∙ f

-- a fault of goals is one where more come behind
pub fault_more : (gs more : List Goal) (e : BuildFault) → IsFaultOf gs e → IsFaultOf (gs ++ more) e
fault_more gs more (Large what number) h = ap (large_after 0 0) (sizes_more gs more) ∙ large_stays 0 0 (sizes_of gs) (sizes_of more) (what, number) h
fault_more gs more Memory h = tt

-- a fault at some of the goals is one at all
pub fault_before : (before first rest all : List Goal) (e : BuildFault) → before ++ (first ++ rest) ≡ all → IsFaultOf (before ++ first) e → IsFaultOf all e
fault_before before first rest all e same h = subst (λ gs. IsFaultOf gs e) (append_assoc before first rest ∙ same) (fault_more (before ++ first) rest e h)

-- at the exit of a `?` the fault is that of the call
pub at_exit : {T : Type 0} (P : BuildFault → Type 0) (r : Result T BuildFault) (e : BuildFault) → IsErrAnd r (λ x. x ≡ e) → P e → IfErr r P
at_exit P (Ok v) e h p = tt
at_exit P (Err x) e h p = subst P (sym h) p

-- a tally with one goal more
pub tallied : (gs all : List Goal) (g : Goal) (n b size more : ℕ) → large gs ≡ None → n ≡ length gs → b ≡ sum (sizes_of gs) → size ≡ length (obligation_text g.obligation)
    → all ≡ gs ++ g ∷ [] → more ≡ b + size → large_after n b (size ∷ []) ≡ None → n < count_limit → more ≤ byte_limit
    → (more ≡ sum (sizes_of all)) × (large all ≡ None) × (length all ≤ count_limit) × (more ≤ byte_limit)
tallied gs all g n b size more none count bytes own items sums within room fits =
    let total : sum (sizes_of all) ≡ sum (sizes_of gs) + length (obligation_text g.obligation) = ap (λ hs. sum (sizes_of hs)) items ∙ bytes_more gs g in
    let many : length all ≡ length gs + 1 = ap length items ∙ length-append gs (g ∷ []) in
    (omega (sums, bytes, own, total, arith), ap large items ∙ still_within gs g n b size none count bytes own within, omega (many, count, room, arith), fits)

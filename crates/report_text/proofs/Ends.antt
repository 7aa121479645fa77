-- Where the shorter list ends, no line is left.
use Rattle.std.proofs.Common.{◌≡◌, ℕ, ◌+◌, ◌≤◌, arith, Vec, Global, List, [], ◌∷◌, ◌++◌, length, map, string_bytes, drop, min, refl}
use Rattle.std.proofs.lemmas.List.{length-drop, append_assoc}
use Rattle.std.specs.declared.string.String.{String}
use Rattle.flow_core.specs.declared.mark.Mark.{Mark}
use Rattle.tableau.specs.declared.ended.Verdict.{Verdict}
use Rattle.tableau.specs.RunView.{verdict_of}
use Rattle.report_text.specs.Report.{goal_lines, report}

pub goals_end : (name : List ℕ) (i : ℕ) (ms : List Mark) (vs : List Verdict) → min (length ms) (length vs) ≤ i → goal_lines name (drop i ms) (map verdict_of (drop i vs)) ≡ []
goals_end name i ms vs h = by (drop i ms) (drop i vs) (let e : min (length (drop i ms)) (length (drop i vs)) ≡ 0 = omega (arith, length-drop i ms, length-drop i vs) in e)
  where
    by : (ns : List Mark) (ws : List Verdict) → min (length ns) (length ws) ≡ 0 → goal_lines name ns (map verdict_of ws) ≡ []
    by [] ws e = refl
    by (n ∷ ns) [] e = refl
    by (n ∷ ns) (w ∷ ws) e = absurd (omega (arith, e))

pub procs_end : (i : ℕ) (ns : List (String Global)) (mss : List (Vec Mark Global)) (vss : List (Vec Verdict Global)) → min (min (length ns) (length mss)) (length vss) ≤ i
    → report (map string_bytes (drop i ns)) (map (λ ms. ms.items) (drop i mss)) (map (λ vs. map verdict_of vs.items) (drop i vss)) ≡ []
procs_end i ns mss vss h = by (drop i ns) (drop i mss) (drop i vss)
    (let e : min (min (length (drop i ns)) (length (drop i mss))) (length (drop i vss)) ≡ 0 = omega (arith, length-drop i ns, length-drop i mss, length-drop i vss) in e)
  where
    by : (ls : List (String Global)) (kss : List (Vec Mark Global)) (wss : List (Vec Verdict Global)) → min (min (length ls) (length kss)) (length wss) ≡ 0 → report (map string_bytes ls) (map (λ ms. ms.items) kss) (map (λ vs. map verdict_of vs.items) wss) ≡ []
    by [] kss wss e = refl
    by (l ∷ ls) [] wss e = refl
    by (l ∷ ls) (ks ∷ kss) [] e = refl
    by (l ∷ ls) (ks ∷ kss) (ws ∷ wss) e = absurd (omega (arith, e))

pub one_behind : (xs ys : List (List ℕ)) (z : List ℕ) → (xs ++ ys) ++ z ∷ [] ≡ xs ++ (ys ++ z ∷ [])
one_behind xs ys z = append_assoc xs ys (z ∷ [])

-- Where the shorter list ends, no line is left.
use Rattle.std.proofs.Common.{◌≡◌, ℕ, ◌≤◌, arith, Vec, Global, List, [], ◌∷◌, length, map, string_bytes, drop, min, refl}
use Rattle.std.proofs.lemmas.List.{length-drop}
use Rattle.std.specs.declared.string.String.{String}
use Rattle.flow_core.specs.declared.mark.Mark.{Mark}
use Rattle.bpl_ast.specs.Statement.{Decl}
use Rattle.bpl_model.specs.Module.{Module}
use Rattle.stmt_checksum.specs.SumLines.{sum_lines}

pub sums_end : (m : Module) (ds : List Decl) (i : ℕ) (ns : List (String Global)) (gss : List (Vec Mark Global)) → min (length ns) (length gss) ≤ i
    → sum_lines m ds (map string_bytes (drop i ns)) (map (λ gs. gs.items) (drop i gss)) ≡ []
sums_end m ds i ns gss h = by (drop i ns) (drop i gss) (let e : min (length (drop i ns)) (length (drop i gss)) ≡ 0 = omega (arith, length-drop i ns, length-drop i gss) in e)
  where
    by : (ks : List (String Global)) (hss : List (Vec Mark Global)) → min (length ks) (length hss) ≡ 0 → sum_lines m ds (map string_bytes ks) (map (λ gs. gs.items) hss) ≡ []
    by [] hss e = refl
    by (k ∷ ks) [] e = refl
    by (k ∷ ks) (hs ∷ hss) e = absurd (omega (arith, e))

-- Some of a run's steps as a run.
use Rattle.std.proofs.Common.{◌≡◌, ◌∙◌, ℕ, ◌+◌, ◌-◌, ◌*◌, ◌≤◌, Ok, ap, arith}
use Rattle.std.proofs.Math.Nat.{add-mul, add-mul-mod_self_right, mul-le-mul_right}
use Rattle.pf_base.specs.GridLists.{GridData, IsGrid}
use Rattle.pf_base.specs.Grids.{grid_of}
use Rattle.pf_split.proofs.Runs.{aligned_is}
use Rattle.pf_results.specs.Runs.{part_of}

pub part_is_grid : (g : GridData) (i n : ℕ) → IsGrid g → 1 ≤ g.step → 1 ≤ n → i + n ≤ g.len → IsGrid (part_of g i n)
part_is_grid g i n k s o h = record {
  some = o;
  most = omega (arith, h, k.most);
  last =
      let less : (i + (n - 1)) * g.step ≤ (g.len - 1) * g.step = mul-le-mul_right g.step (omega (arith, o, h)) in
      omega (arith, k.last, less, add-mul i (n - 1) g.step);
  near = k.near;
  alone = λ z. omega (arith, z, s);
  multiple = λ p. add-mul-mod_self_right g.start i g.step ∙ k.multiple p;
}

pub part_made : (g : GridData) (i n : ℕ) → IsGrid g → 1 ≤ g.step → 1 ≤ n → i + n ≤ g.len
    → grid_of (g.start + i * g.step) (g.start + (i + (n - 1)) * g.step) g.step ≡ Ok (part_of g i n)
part_made g i n k s o h =
    ap (λ e. grid_of (g.start + i * g.step) e g.step) (omega (arith, add-mul i (n - 1) g.step))
    ∙ aligned_is (g.start + i * g.step) g.step n (omega (arith, s)) (part_is_grid g i n k s o h)

-- A plan by default is that of zeros. Assumes nothing.
use mathlib.Core.Path.{◌≡◌}
use Rattle.std.specs.Array.{AllOfLen}
use Rattle.theory.specs.Limits.{most_components, most_entries}
use Rattle.theory.proofs.Every.{all_alike}
use Rattle.block.specs.Block.{zero_component}
use Rattle.block.proofs.Laws.{ByDefault as ComponentByDefault, default_is_zero as component_is_zero}
use Rattle.plan.specs.declared.Plan.{Plan}
use Rattle.plan.specs.Plan.{zero_plan}

abbrev pub ByDefault : Plan → Type 0
ByDefault p = AllOfLen ComponentByDefault p.components most_components × ((p.count ≡ 0) × AllOfLen (λ x. x ≡ 0) p.entries most_entries)

pub default_is_zero : (p : Plan) → ByDefault p → p ≡ zero_plan
default_is_zero p d =
    let e : ◌≡◌ {A = Plan} (record { components = p.components; count = p.count; entries = p.entries }) zero_plan =
    rw (all_alike zero_component component_is_zero most_components d.0, d.1.0, all_alike 0 (λ x e. e) most_entries d.1.1) in
    e

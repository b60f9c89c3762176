use Rattle.std.specs.Prelude.{◌≡◌, drop, map}
use Rattle.pf_top.specs.Pages.{page_in}
use Rattle.pf_top.proofs.pages.page_in.Given as goal

abbrev pub invariant-loop-page : goal.invariant-loop-page
invariant-loop-page l = page_in (map (λ f. (f.0, f.1.items)) (drop l.page-index l.pages)) l.name ≡ page_in (map (λ f. (f.0, f.1.items)) l.pages) l.name

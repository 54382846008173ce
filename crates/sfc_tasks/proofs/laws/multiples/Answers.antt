use Rattle.std.proofs.lemmas.List.Elements.{All-contains}
use Rattle.sfc_tasks.specs.Multiples.{multiples_between}
use Rattle.sfc_tasks.specs.Meaning.{IsMultipleBetween}
use Rattle.sfc_tasks.proofs.Rising.{each_between, between_contained, multiples_rise}
use Rattle.sfc_tasks.proofs.laws.multiples.Goals as goal

pub returns-clause-members : goal.returns-clause-members
returns-clause-members c interval last t u = (
  (λ h. All-contains (IsMultipleBetween interval last t) (multiples_between interval last t) u (each_between interval last t) h),
  λ h. between_contained interval last t u h,
)

pub returns-clause-rise : goal.returns-clause-rise
returns-clause-rise c interval last t = multiples_rise interval last t

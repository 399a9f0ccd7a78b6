-- The invariant of the loop in `declaration_form`: none of the wards so far has this number.
use Rattle.std.proofs.Common.{◌≡◌, drop, map}
use Rattle.store.specs.Overviews.{ward_view}
use Rattle.desk.specs.Forms.{declaration_form}
use Rattle.desk.proofs.ward_forms.declaration_form.Given as goal

abbrev pub invariant-loop-overview : goal.invariant-loop-overview
invariant-loop-overview l = declaration_form l.ward (map ward_view (drop l.overview-index l.wards)) ≡ declaration_form l.ward (map ward_view l.wards)

-- Whether a view of values may yield more, as contracts see it.
use Rattle.lexopt_spec.specs.Views as views
use Rattle.lexopt_base.specs.declared.values.Stage.{Stage}
use Rattle.lexopt_base.specs.declared.values.Stage.TheVariants.{GoingOn, End}

abbrev pub stage_of : Stage → views.Stage
stage_of GoingOn = views.going_on
stage_of End = views.at_end

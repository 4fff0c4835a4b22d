use Rattle.std.proofs.Common.{rules, ap, ◌∙◌, map}
use Rattle.jet_items.specs.Joins.{joint_field}
use Rattle.jet_join.specs.Settings.{pick_of}
use Rattle.jet_join.specs.declared.take.Take.TheVariants.{Event}
use Rattle.jet_join.proofs.Valuing.{four_are}
use Rattle.jet_join.proofs.setting.Setting.values.Goals as goal

pub returns-clause-values : goal.returns-clause-values
returns-clause-values c =
    four_are pick_of (joint_field c.args.event.now c.args.row.now) (Event 0) c.self.inside.fields _ _ _ _ (search rules)
    (search rules) (search rules) (search rules) (search rules)
    ∙ ap (λ j. map (joint_field c.args.event.now c.args.row.now) j.picks) c.self.view_is

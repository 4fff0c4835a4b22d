use Rattle.std.proofs.Common.{◌≡◌, drop, ◌++◌, option_map}
use Rattle.serde_json.specs.View.{items_view}
use Rattle.jet_job.specs.Forms.{each_form, text_form}
use Rattle.jet_job.proofs.files.each_text.Given as goal

abbrev pub invariant-loop-item : goal.invariant-loop-item
invariant-loop-item l = option_map (λ xs. l.texts ++ xs) (each_form text_form (items_view (drop l.item-index l.items))) ≡ each_form text_form (items_view l.items)

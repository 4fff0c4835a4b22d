use Rattle.std.proofs.Common.{rules, ◌≡◌, List, subst, sym, Some, ◌∙◌}
use Rattle.std.proofs.lemmas.Slice.Eq.{bytes_eq-Decides}
use Rattle.jet_file.specs.Contents.{content_in}
use Rattle.jet_file.specs.declared.stored.StoredFile.{StoredFile}
use Rattle.jet_file.proofs.ContentLemmas.{content_pushed, bytes_same, content_others, not_true}
use Rattle.jet_file.proofs.memory.MemoryOutside.add.Goals as goal

pub returns-clause-ok : goal.returns-clause-ok
returns-clause-ok c =
    let name : c.in_ok-name.name.items ≡ c.args.name.now = search rules in
    record {
      there = subst (λ (items : List StoredFile). content_in items c.args.name.now ≡ Some c.args.content.items) (sym c.in_ok-push.ensures.items)
          (content_pushed c.args.self.now.files.items _ c.args.name.now c.requires (bytes_same _ _ name));
      others = λ other differs. subst (λ (items : List StoredFile). content_in items other ≡ content_in c.args.self.now.files.items other) (sym c.in_ok-push.ensures.items)
          (content_others c.args.self.now.files.items _ other (not_true _ (λ same. differs (sym ((bytes_eq-Decides _ _).0 same) ∙ name))));
      place = search rules;
      written = search rules;
      trace = search rules;
    }

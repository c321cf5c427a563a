use Rattle.std.proofs.Common.{◌≡◌, ◌≤◌, ◌+◌, ◌∷◌, ◌++◌, ◌∙◌, [], ap, arith, length, rules, sym}
use Rattle.std.proofs.lemmas.List.{length_push}
use Rattle.wb_judge.specs.Strange.{pages_in, row_of, rows_in, with_page, with_row}
use Rattle.wb_judge.proofs.Gathering.{pages_more, rows_more}
use Rattle.wb_judge.proofs.strange.Strange.put.Goals as goal

pub invariant_of-self : goal.invariant_of-self
invariant_of-self c =
    let held = c.self.inside.items.items in
    let more : c.push_reserved.new.self.items ≡ held ++ c.args.given ∷ [] = c.push_reserved.ensures.items in
    let size : length c.push_reserved.new.self.items ≡ length held + 1 = ap length more ∙ length_push held c.args.given in
    let page : c.page.result ≡ c.args.given.name.page = search rules in
    let row : c.of.result ≡ row_of c.args.given.name = search rules in
    let p = c.add_page.ensures in
    let r = c.add_row.ensures in
    let few_pages : length c.add_page.new.pages.items ≤ length c.self.inside.pages.items + 1 = search rules in
    let few_rows : length c.add_row.new.rows.items ≤ length c.self.inside.rows.items + 1 = search rules in
    record {
      few = search rules;
      room = search rules;
      pages = p.pages ∙ ap (λ q. with_page q c.self.inside.pages.items) page ∙ ap (with_page c.args.given.name.page) c.self.invariant.pages ∙ sym (pages_more [] held c.args.given) ∙ ap (pages_in []) (sym more);
      few_pages = omega (arith, few_pages, size, c.self.invariant.few_pages);
      room_for_pages = search rules;
      rows = r.rows ∙ ap (λ s. with_row s c.self.inside.rows.items) row ∙ ap (with_row (row_of c.args.given.name)) c.self.invariant.rows ∙ sym (rows_more [] held c.args.given) ∙ ap (rows_in []) (sym more);
      few_rows = omega (arith, few_rows, size, c.self.invariant.few_rows);
      room_for_rows = search rules;
    }

use Rattle.wb_display.proofs.Layers.{news_from}
use Rattle.wb_display.proofs.layer.is_news.Goals as goal

pub returns-then-is_on_page : goal.returns-then-is_on_page
returns-then-is_on_page c keys = news_from c.args.words.now.page c.args.drawop.now c.args.drawops.now.entries c.naming.result c.contains_key.result c.if-is_on_page.ensures keys c.naming.ensures c.contains_key.ensures

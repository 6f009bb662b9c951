pub mod PagesView
pub mod Laws

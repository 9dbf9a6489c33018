mod CountLaws
mod Apart
